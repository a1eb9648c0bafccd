-- What is printed of the answers.
use Rattle.std.specs.Prelude.{◌≡◌, ℕ, true, false, List, ◌++◌, Ok, Err, codes, decimal, Result}
use Rattle.std.specs.Fmt.{signed_decimal}
use Rattle.causes.specs.declared.refusal.Refusal.{Refusal}
use Rattle.causes.specs.Causes as cause
use Rattle.causes.specs.Said.{Said}
use Rattle.loader.specs.declared.loading.Loaded.{Loaded}
use Rattle.row_text.specs.declared.text.Checked.{Checked}
use Rattle.journal_answers.specs.declared.answer.Answer.{Answer}
use Rattle.journal_answers.specs.declared.answer.Answer.TheVariants as answer

-- a refusal that says this
abbrev pub Refuses : Said → Answer → Type 0
Refuses s a = (x : Refusal) × (a ≡ answer.Refused x) × (cause.says x ≡ s)

-- the answer that a result is shown by: its value, or the number and values of its fault
abbrev pub Shows : {A E : Type 0} → (A → Answer) → (E → Said) → Result A E → Answer → Type 0
Shows value fault (Ok x) a = a ≡ value x
Shows value fault (Err f) a = Refuses (fault f) a

-- the values of the calls
abbrev pub seen : Checked → Answer
seen x = answer.Checked x

abbrev pub done : Unit {0} → Answer
done u = answer.Done

abbrev pub length_of : ℕ → Answer
length_of n = answer.Length n

abbrev pub text_of : ℕ → Answer
text_of n = answer.Text n

abbrev pub loaded_as : Loaded → Answer
loaded_as x = answer.Loaded x

abbrev pub tail_at : ℕ × ℕ → Answer
tail_at p = answer.Tail p.0 p.1

-- what stands behind a call's line
abbrev pub answered : Answer → List ℕ
answered (answer.Checked k) = codes "rows " ++ (decimal k.rows ++ (codes " size " ++ (decimal k.size ++ (codes " wal " ++ (decimal k.wal ++ (codes " compacted " ++ decimal k.compacted))))))
answered answer.Done = codes "ok"
answered (answer.Length n) = codes "length " ++ decimal n
answered (answer.Text n) = codes "length " ++ decimal n
answered (answer.Loaded x) = codes "rows " ++ (decimal x.rows ++ (codes " size " ++ (decimal x.size ++ (codes " puts " ++ (decimal x.puts ++ (codes " bytes " ++ decimal x.bytes))))))
answered (answer.Tail id heads) = codes "id " ++ (decimal id ++ (codes " heads " ++ decimal heads))
answered (answer.Opened fence attempts) = codes "fence " ++ (decimal fence ++ (codes " attempts " ++ decimal attempts))
answered (answer.Asked true) = codes "asked"
answered (answer.Asked false) = codes "not asked"
answered (answer.Replayed rows size last) =
    codes "table rows " ++ (decimal rows ++ (codes " size " ++ (decimal size ++ (codes " tick " ++ (signed_decimal last.last_tick
    ++ (codes " seq " ++ (decimal last.last_seq ++ (codes " wal " ++ decimal last.last_wal_id))))))))
answered answer.End = codes "end"
answered (answer.Refused x) = codes "refused " ++ cause.told x

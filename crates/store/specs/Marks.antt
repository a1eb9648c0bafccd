-- The marks of a fault script, the next one first.
use Rattle.std.specs.Prelude.{Bool, true, false, List, [], ◌∷◌, Some, None, Option}
use Rattle.std.specs.Option.{unwrap_or}
use Rattle.store.specs.declared.marks.Mark.{Mark}
use Rattle.store.specs.declared.marks.Mark.TheVariants.{Fair, Lost, Late}

abbrev pub first_mark : List Mark → Option Mark
first_mark [] = None
first_mark (m ∷ ms) = Some m

-- the mark of the next call: used-up marks count as fair
abbrev pub next_mark : List Mark → Mark
next_mark ms = unwrap_or (first_mark ms) Fair

-- the marks after that call
abbrev pub one_used : List Mark → List Mark
one_used [] = []
one_used (m ∷ ms) = ms

abbrev pub all_fair : List Mark → Bool
all_fair [] = true
all_fair (Fair ∷ ms) = all_fair ms
all_fair (Lost ∷ ms) = false
all_fair (Late ∷ ms) = false

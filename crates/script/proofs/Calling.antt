-- The text of a call, by its line's last word.
use Rattle.std.proofs.Common.{◌≡◌, ℕ, ◌<◌, ◌≤◌, List, [], ◌∷◌, length, Some, None, Option, sym, ap, subst, arith, Bor}
use Rattle.std.proofs.lemmas.List.{length-append, length-drop}
use Rattle.script.specs.declared.call.Call.{Call}
use Rattle.script.specs.declared.call.Last.{Last}
use Rattle.script.specs.declared.call.Last.TheVariants.{Here, Digits, Word}
use Rattle.script.specs.declared.call.Text.{Text}
use Rattle.script.specs.declared.call.Text.TheVariants.{Lines, Hex}
use Rattle.script.specs.declared.script.Script.{Script}
use Rattle.script.specs.Calls.{Taken, Texts, digits}
use Rattle.script.specs.Lines.{idles}
use Rattle.script.specs.Scripts.{Body, left}

pub texts_none : (s t : Script) (last : Last) (text : Option Text) → last ≡ Word → text ≡ None → t ≡ s → Texts s last text t
texts_none s t last text l x u = subst (λ (y : Option Text). Texts s last y t) (sym x) (l, u)

pub texts_hex : (s t : Script) (last : Last) (text : Option Text) (d : Bor (List ℕ)) → last ≡ Digits d → text ≡ Some (Hex d) → t ≡ s → Texts s last text t
texts_hex s t last text d l x u = subst (λ (y : Option Text). Texts s last y t) (sym x) (ap digits l, u)

pub texts_lines : (s t u : Script) (last : Last) (text : Option Text) (b : Bor (List ℕ)) → last ≡ Here → text ≡ Some (Lines b) → t ≡ u → Body s b.now u → Texts s last text t
texts_lines s t u last text b l x e body = subst (λ (y : Option Text). Texts s last y t) (sym x) (l, subst (λ (v : Script). Body s b.now v) (sym e) body)

body_shorter : (s : Script) (b : List ℕ) (t : Script) → Body s b t → length (left t) < length (left s)
body_shorter s b t h = omega (arith, ap length h.cut, length-append h.body ((46 ∷ []) ∷ left t))

texts_shorter : (s t : Script) (last : Last) (text : Option Text) → Texts s last text t → length (left t) ≤ length (left s)
texts_shorter s t last None h = omega (arith, ap (λ (u : Script). length (left u)) h.1)
texts_shorter s t last (Some (Lines b)) h = omega (arith, body_shorter s b.now t h.1)
texts_shorter s t last (Some (Hex d)) h = omega (arith, ap (λ (u : Script). length (left u)) h.1)

-- a call takes a line at least
pub taken_shorter : (s : Script) (call : Call) (t : Script) → Taken s call t → length (left t) < length (left s)
taken_shorter s call t h =
    let drops = ap length h.finds.0 in
    let left_over = length-drop (idles (left s)) (left s) in
    omega (arith, drops, left_over, texts_shorter h.behind t h.last call.text h.text)

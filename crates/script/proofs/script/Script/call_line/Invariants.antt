use Rattle.std.proofs.Common.{◌≡◌, ◌+◌, length, drop}
use Rattle.script.specs.Lines.{idles}
use Rattle.script.specs.Scripts.{left, line, rest}
use Rattle.script.proofs.script.Script.call_line.Given as goal

abbrev pub invariant-loop-bytes : goal.invariant-loop-bytes
invariant-loop-bytes l =
    (drop (idles (left l.self)) (left l.self) ≡ drop (idles (left l.initial.self)) (left l.initial.self))
    × (line l.self + idles (left l.self) ≡ line l.initial.self + idles (left l.initial.self))

abbrev pub decreases-loop-bytes : goal.decreases-loop-bytes
decreases-loop-bytes l = length (rest l.self)

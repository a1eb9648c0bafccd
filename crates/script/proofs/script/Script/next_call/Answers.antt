use Rattle.std.proofs.Common.{refl, subst}
use Rattle.script.specs.declared.call.Last.{Last}
use Rattle.script.specs.Calls.{Splits, Taken}
use Rattle.script.proofs.Calling.{taken_shorter, texts_hex, texts_lines, texts_none}
use Rattle.script.proofs.script.Script.next_call.Goals as goal
use Rattle.script.proofs.script.Script.next_call.Goals.{in-Here+in-Some-text, in-Digits, in-Word}

pub returns-in-None : goal.returns-in-None
returns-in-None c = record {
  shorter = tt;
  calls = record {
    found = c.in-Some.found;
    behind = c.call_line.new.self;
    words = c.split_text.result.0.now;
    finds = c.in-Some.ensures;
    error = refl;
    splits = subst (λ (l : Last). Splits c.in-Some.found.bytes.now c.split_text.result.0.now l) c.in-Here.is c.split_text.ensures;
    gives = c.in-None.ensures;
  };
}

taken : (c : goal.Joined-last) → Taken c.args.self.now (record { line = c.in-Some.found.number; words = c.split_text.result.0; text = c.match-last.text }) c.match-last.self
taken c = record {
  found = c.in-Some.found;
  behind = c.call_line.new.self;
  last = c.split_text.result.1;
  finds = c.in-Some.ensures;
  number = refl;
  splits = c.split_text.ensures;
  text = elim c.match-last.branch [
    | in-Here+in-Some-text w ↦ texts_lines _ _ _ _ _ _ w.in-Here.is w.text-is w.self-is w.in-Some-text.ensures
    | in-Digits w ↦ texts_hex _ _ _ _ _ w.in-Digits.is w.text-is w.self-is
    | in-Word w ↦ texts_none _ _ _ _ w.in-Word.is w.text-is w.self-is
  ];
}

pub returns : goal.returns
returns c = record { calls = taken c; shorter = taken_shorter _ _ _ (taken c) }

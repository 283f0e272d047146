use Rattle.std.proofs.Common.{◌≡◌, ◌≤◌, ◌*◌, length, take}
use Rattle.fz_runs.proofs.Words.{joined}
use Rattle.fz_runs.proofs.text.output.put_words.Given as goal

abbrev pub invariant-loop-place : goal.invariant-loop-place
invariant-loop-place l = record {
  words : l.line.bytes ≡ joined (take l.place l.words);
  room : length l.line.bytes ≤ 21 * l.place;
}

use Rattle.std.proofs.Common.{arith, ◌≤◌, ◌∙◌, ap, ◌++◌, [], ◌∷◌, length, leb-true, lit<}
use Rattle.fz_runs.specs.declared.text.output.Word.TheVariants.{Text}
use Rattle.std.proofs.lemmas.Bool.{and_parts}
use Rattle.fz_runs.proofs.Words.{short_at, line_more, line_whole}
use Rattle.fz_runs.proofs.text.output.put_words.Goals as goal

pub push_separator-requires : goal.push_separator-requires
push_separator-requires c = let f : length c.args.words.now ≤ 12 = leb-true _ _ (and_parts _ _ c.requires.fits).0 in let r = c.loop-place.invariant.room in record { room = omega (arith, f, r) }

pub push_word-requires-clause-room : goal.push_word-requires-clause-room
push_word-requires-clause-room c = let f : length c.args.words.now ≤ 12 = leb-true _ _ (and_parts _ _ c.requires.fits).0 in let r = c.loop-place.invariant.room in omega (arith, f, r)

pub push_word-requires-clause-short : goal.push_word-requires-clause-short
push_word-requires-clause-short c = short_at c.args.words.now c.loop-place.place _ (and_parts _ _ c.requires.fits).1 c.loop-place-test.true

pub loop-place-preserved : goal.loop-place-preserved
loop-place-preserved c = record {
  words = line_more c.args.words.now c.loop-place.place (Text (record { ref_ptr = (0, 0); now = [] })) c.loop-place.line.bytes c.push_separator.new.line.bytes c.push_word.new.line.bytes c.loop-place-test.true c.loop-place.invariant.words c.push_separator.ensures.bytes c.push_word.ensures.bytes;
  room = let r = c.loop-place.invariant.room in let a = c.push_separator.ensures.len in let b = c.push_word.ensures.len in omega (arith, r, a, b);
}

pub push_str-requires : goal.push_str-requires
push_str-requires c = let f : length c.args.words.now ≤ 12 = leb-true _ _ (and_parts _ _ c.requires.fits).0 in let r = c.loop-place.invariant.room in (lit< tt, omega (arith, f, r))

pub returns : goal.returns
returns c = c.push_str.ensures.bytes ∙ ap (λ l. l ++ 10 ∷ []) (line_whole c.args.words.now c.loop-place.place c.loop-place.line.bytes c.loop-place.auto.place-end c.loop-place-test.false c.loop-place.invariant.words)

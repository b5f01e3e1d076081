use Rattle.std.proofs.Common.{◌≡◌, refl, ap, sym, ◌∙◌, ◌+◌, ◌++◌, arith, length, drop, slice_index_or, suc, List, ℕ}
use Rattle.std.specs.List.{flat_map}
use Rattle.std.proofs.lemmas.List.{append-nil}
use Rattle.history.specs.declared.answer.Answer.{Answer}
use Rattle.history_text.specs.Text.{answer_line, numbered}
use Rattle.history_text.proofs.Numbering.{one_more, nothing_left}
use Rattle.history_text.proofs.answers.write_answers.Goals as goal

abbrev lines : ℕ → List Answer → List ℕ
lines reader answers = flat_map (answer_line reader) answers

pub loop-reader-init : goal.loop-reader-init
loop-reader-init c = refl

pub loop-reader-preserved : goal.loop-reader-preserved
loop-reader-preserved c =
    ap (λ (text : List ℕ). text ++ numbered lines (c.loop-reader.reader + 1) (drop (c.loop-reader.reader + 1) c.args.told.now)) (c.in_ok-write_reader.ensures ∙ ap (λ (answers : List Answer). c.loop-reader.text.items ++ lines c.loop-reader.reader answers) (c.as_slice.ensures ∙ c.index-told-reader.is))
    ∙ ap (λ (n : ℕ). (c.loop-reader.text.items ++ lines c.loop-reader.reader (slice_index_or c.args.told.now c.loop-reader.reader c.index-told-reader.result)) ++ numbered lines (c.loop-reader.reader + 1) (drop n c.args.told.now)) (let e : c.loop-reader.reader + 1 ≡ suc c.loop-reader.reader = omega arith in e)
    ∙ one_more lines c.loop-reader.text.items c.args.told.now c.loop-reader.reader c.index-told-reader.result (omega (arith, c.loop-reader-test.true)) ∙ c.loop-reader.invariant

pub returns : goal.returns
returns c =
    let all : c.loop-reader.reader ≡ length c.args.told.now = omega (arith, c.loop-reader-test.false, c.loop-reader.auto.reader-end) in
    sym (append-nil _) ∙ ap (λ (told : List (List Answer)). c.loop-reader.text.items ++ numbered lines c.loop-reader.reader told) (sym (nothing_left c.args.told.now) ∙ ap (λ (n : ℕ). drop n c.args.told.now) (sym all))
    ∙ c.loop-reader.invariant

use Rattle.std.proofs.Common.{◌≡◌, ◌+◌, ℕ, List, [], ◌∷◌, ◌++◌, length, length-append, append-nil, map, suc, refl, sym, ap, subst, ◌∙◌, arith}
use Rattle.std.proofs.lemmas.Result.{err_from_is_err_and}
use Rattle.history.specs.Rows.{NamedRows}
use Rattle.script_run.specs.Lines.{lines_of}
use Rattle.dump_text.specs.Dump.{record_words, count_words}
use Rattle.dump_text.specs.Taking.{HasRead}
use Rattle.dump_text.proofs.Taken.{Entry, line_more, nothing_read, not_taken}
use Rattle.dump_text.proofs.reading.read_dump.Goals as goal

pub loop-line-init : goal.loop-line-init
loop-line-init c = record {
  so_far = ([], refl, subst (λ (tables : List NamedRows). HasRead tables []) (sym c.in_ok-gathered.ensures) nothing_read, refl);
  fits = omega arith;
}

pub returns-in-Some-read_count : goal.returns-in-Some-read_count
returns-in-Some-read_count c =
    let so_far = c.loop-line.invariant.so_far in
    let behind = lines_of c.in-Some.behind.now in
    let next = c.in-Some.ensures.0 ∙ ap (λ (line : List ℕ). line ∷ behind) c.in-Some-read_count.ensures.1 in
    c.end.ensures c.args.text.now so_far.0 so_far.2 so_far.3 (so_far.1 ∙ ap (λ (lines : List (List ℕ)). map record_words so_far.0 ++ lines) next)

pub returns-in_err-take : goal.returns-in_err-take
returns-in_err-take c =
    let so_far = c.loop-line.invariant.so_far in
    let lines = so_far.1 ∙ ap (λ (lines : List (List ℕ)). map record_words so_far.0 ++ lines) c.in-Some.ensures.0 in
    let p = err_from_is_err_and c.from_residual-in_err-take.result c.from_residual-in_err-take.ensures.1 in
    rw (p.1, p.2) (not_taken c.args.text.now so_far.0 c.in-Some.line.now (lines_of c.in-Some.behind.now) (c.loop-line.count + 1) c.in_err-take.field-0.0 c.take.new.gathered
    lines so_far.2.proper (omega (arith, so_far.3)) (c.in_err-take.ensures so_far.0 so_far.2))

pub loop-line-preserved : goal.loop-line-preserved
loop-line-preserved c =
    let so_far = c.loop-line.invariant.so_far in
    let taken = c.in_ok-take.ensures so_far.0 so_far.2 in
    let lines = so_far.1 ∙ ap (λ (lines : List (List ℕ)). map record_words so_far.0 ++ lines) c.in-Some.ensures.0 in
    record {
      so_far = (
        so_far.0 ++ taken.0 ∷ [],
        line_more c.args.text.now so_far.0 taken.0 c.in-Some.line.now (lines_of c.in-Some.behind.now) lines taken.1,
        taken.2,
        omega (arith, so_far.3, length-append so_far.0 (taken.0 ∷ [])),
      );
      fits = omega (arith, c.in-Some.ensures.1, c.loop-line.invariant.fits);
    }

pub returns : goal.returns
returns c =
    let so_far = c.loop-line.invariant.so_far in
    (so_far.0, so_far.1 ∙ ap (λ (bytes : List ℕ). map record_words so_far.0 ++ lines_of bytes) c.in_default.ensures ∙ append-nil (map record_words so_far.0), so_far.2.proper)

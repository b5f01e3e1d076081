use Rattle.std.proofs.Common.{sym, ap, ◌∙◌, ◌≡◌, ◌-◌, ◌++◌, List, ℕ, length, take, drop}
use Rattle.std.proofs.lemmas.List.{take_rest, take-append-drop, append_assoc}
use Rattle.texts.proofs.output.write_whole.Goals as goal

-- n more bytes are written
more : (piece done rest : List ℕ) (n : ℕ) → piece ≡ done ++ rest → piece ≡ (done ++ take n rest) ++ take (length rest - n) (drop n rest)
more piece done rest n is =
    is ∙ ap (λ x. done ++ x) (sym (take-append-drop n rest) ∙ ap (λ x. take n rest ++ x) (sym (take_rest rest n))) ∙ sym (append_assoc done (take n rest) _)

pub loop-rest-preserved : goal.loop-rest-preserved
loop-rest-preserved g c =
    let done = c.loop-rest.invariant.0.0 in
    let rest = c.loop-rest.rest.now in (
      (
        done ++ take c.in_ok-count.count rest,
        more c.args.piece.now done rest c.in_ok-count.count c.loop-rest.invariant.0.1,
        λ tells. c.in_ok-count.ensures.bytes tells ∙ ap (λ x. x ++ take c.in_ok-count.count rest) (c.loop-rest.invariant.0.2 tells) ∙ append_assoc _ done _,
      ),
      c.in_ok-count.ensures.cause.kept ∙ c.loop-rest.invariant.1,
    )

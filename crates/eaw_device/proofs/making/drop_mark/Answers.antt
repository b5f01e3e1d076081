use Rattle.std.proofs.Common.{◌≤◌, [], ◌∷◌, inl, length, refl, sym, ap, subst, ◌∙◌, arith}
use Rattle.std.proofs.lemmas.Result.{on_ok_weaker}
use Rattle.mars_base.proofs.Going.{weaker}
use Rattle.pcm_media.specs.Images.{Content}
use Rattle.pcm_media.proofs.Left.{same_bytes}
use Rattle.array_image.proofs.Calls.{SoFar, none_yet, goes_on, ends_with, then_barrier}
use Rattle.eaw_device.specs.Made.{IsNoArray}
use Rattle.eaw_device.proofs.NewArrays.{has_mark, one_mark, no_mark, mark_dropped, mark_left}
use Rattle.eaw_device.proofs.making.drop_mark.Goals.{then-starts_with+in_ok-write, else-starts_with}
use Rattle.eaw_device.proofs.making.drop_mark.Goals as goal

pub returns-in_err-write-clause-any_moment : goal.returns-in_err-write-clause-any_moment
returns-in_err-write-clause-any_moment g c told =
    let m = g.M.Media in
    let old = m.view c.args.media.now in
    let header = c.args.header.now in
    let marked = has_mark c.args.shape.now header c.requires.header in
    let has = one_mark header old.content.bytes c.read.new.buf marked (omega arith) (c.in_ok-read.ensures.bytes told) (sym c.if-starts_with.true ∙ c.starts_with.ensures.value) in
    let read = goes_on m.tells ((0, 8) ∷ []) [] old old _ (λ told i out. tt) (none_yet m.tells ((0, 8) ∷ []) old) c.in_ok-read.ensures.does refl in
    let wrote = ends_with m.tells ((0, 8) ∷ []) _ old _ _ (λ told i out. out) read c.write.result c.write.ensures.does in
    mark_left old (m.view c.write.new.self) has (wrote.time told)

pub returns-clause-dropped : goal.returns-clause-dropped
returns-clause-dropped g c told =
    let m = g.M.Media in
    let old = m.view c.args.media.now in
    let read = m.view c.read.new.self in
    let header = c.args.header.now in
    let marked = has_mark c.args.shape.now header c.requires.header in
    let none : IsNoArray (m.view c.if-starts_with.media).content.bytes = elim c.if-starts_with.branch [
      | then-starts_with+in_ok-write w ↦
          let fits : 512 ≤ length read.content.bytes = omega (arith, g.met.M.Media.long c.read.new.self told, c.in_ok-read.ensures.does.size, c.requires.size) in
          subst (λ x. IsNoArray (m.view x).content.bytes) (sym w.media-is)
          (subst (λ (x : Content). IsNoArray x.bytes) (sym (w.in_ok-write.ensures.written told)) (mark_dropped read.content fits))
      | else-starts_with w ↦
          let bare = no_mark header old.content.bytes c.read.new.buf marked (omega arith) (c.in_ok-read.ensures.bytes told) (sym w.if-starts_with.false ∙ c.starts_with.ensures.value) in
          subst (λ x. IsNoArray (m.view x).content.bytes) (sym w.media-is) (subst IsNoArray (sym (same_bytes _ _ (c.in_ok-read.ensures.does.touched told))) bare)
    ] in
    on_ok_weaker c.barrier.result (λ is. subst IsNoArray (sym (ap (λ (x : Content). x.bytes) is)) none) (c.barrier.ensures.settled told)

pub returns-clause-does : goal.returns-clause-does
returns-clause-does g c =
    let m = g.M.Media in
    let old = m.view c.args.media.now in
    let read : SoFar m.tells ((0, 8) ∷ []) old (m.view c.read.new.self) = goes_on m.tells ((0, 8) ∷ []) [] old old _ (λ told i out. tt) (none_yet m.tells ((0, 8) ∷ []) old) c.in_ok-read.ensures.does refl in
    let wrote : SoFar m.tells ((0, 8) ∷ []) old (m.view c.if-starts_with.media) = elim c.if-starts_with.branch [
      | then-starts_with+in_ok-write w ↦
          subst (λ x. SoFar m.tells ((0, 8) ∷ []) old (m.view x)) (sym w.media-is) (goes_on m.tells ((0, 8) ∷ []) _ old _ _ (λ told i out. out) read w.in_ok-write.ensures.does refl)
      | else-starts_with w ↦ subst (λ x. SoFar m.tells ((0, 8) ∷ []) old (m.view x)) (sym w.media-is) read
    ] in
    then_barrier m.tells ((0, 8) ∷ []) old _ _ c.barrier.result wrote c.barrier.ensures.does

pub returns-clause-any_moment : goal.returns-clause-any_moment
returns-clause-any_moment g c told =
    let m = g.M.Media in
    let old = m.view c.args.media.now in
    let header = c.args.header.now in
    let marked = has_mark c.args.shape.now header c.requires.header in
    elim c.if-starts_with.branch [
      | then-starts_with+in_ok-write w ↦
          let has = one_mark header old.content.bytes c.read.new.buf marked (omega arith) (c.in_ok-read.ensures.bytes told) (sym w.if-starts_with.true ∙ c.starts_with.ensures.value) in
          mark_left old (m.view c.barrier.new.self) has ((returns-clause-does g c).time told)
      | else-starts_with w ↦
          let read : SoFar m.tells [] old (m.view c.read.new.self) = goes_on m.tells [] [] old old _ (λ told i out. out) (none_yet m.tells [] old) c.in_ok-read.ensures.does refl in
          let kept : SoFar m.tells [] old (m.view c.if-starts_with.media) = subst (λ x. SoFar m.tells [] old (m.view x)) (sym w.media-is) read in
          weaker (λ image left. inl left) ((then_barrier m.tells [] old _ _ c.barrier.result kept c.barrier.ensures.does).time told)
    ]

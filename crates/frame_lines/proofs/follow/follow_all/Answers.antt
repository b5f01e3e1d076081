use Rattle.std.proofs.Common.{◌≡◌, ℕ, List, [], ◌∷◌, ◌++◌, refl, sym, ◌∙◌, ap, subst, arith}
use Rattle.std.specs.Prelude.{MatchBool}
use Rattle.std.proofs.lemmas.List.{append_assoc, append-nil}
use Rattle.mars_base.specs.Causes.{Rose}
use Rattle.mars_base.proofs.Going.{stays, then, weaker}
use Rattle.script_run.specs.Lines.{lines_of}
use Rattle.frame_lines.specs.Followed.{OpensFirst}
use Rattle.frame_lines.proofs.Running.{SoFar, begins, goes_on, near, ended_all, ended_at, opens_first}
use Rattle.frame_lines.proofs.follow.follow_all.Goals as goal

pub loop-line-init : goal.loop-line-init
loop-line-init g c =
    let s = g.S.EawStore in
    let first = c.args.follower.now in
    record {
      text = ([], λ told. sym (append-nil (g.K.Sink.written c.args.sink.now)), begins s.tells s.view first (lines_of c.args.input.now) c.requires.between c.requires.first c.requires.alive);
      moments = λ told. stays (s.view first.store).moment (s.view first.store).left_since (OpensFirst s.opens (s.view first.store).shape (s.view first.store).state.bytes (lines_of c.args.input.now));
      count = omega arith;
      sink = refl;
      media = refl;
    }

pub returns-in-Err-clause-ran : goal.returns-in-Err-clause-ran
returns-in-Err-clause-ran g c =
    let s = g.S.EawStore in
    let first = c.args.follower.now in
    let so = c.loop-line.invariant.text in
    let end = c.in-Err.ensures.ran in
    let lines = lines_of c.args.input.now in
    let far : SoFar s.tells s.view first c.loop-line.follower lines (c.in-Some.line.now ∷ lines_of c.in-Some.after.now) c.loop-line.n so.0 =
    subst (λ (rest : List (List ℕ)). SoFar s.tells s.view first c.loop-line.follower lines rest c.loop-line.n so.0) c.in-Some.ensures.0 so.2 in
    record {
      cut = end.cut;
      text = so.0 ++ end.text;
      wrote = λ told. end.wrote told ∙ ap (λ (x : List ℕ). x ++ end.text) (so.1 told) ∙ append_assoc (g.K.Sink.written c.args.sink.now) so.0 end.text;
      counts = subst (λ (n : ℕ). let now = g.K.Sink.faults c.follow_line.new.sink in MatchBool end.cut (Rose n now) (now ≡ n)) c.loop-line.invariant.sink end.counts;
      holds = ended_at s.tells s.view first lines c.args.shape c.requires.shape c.loop-line.follower c.follow_line.new.follower c.in-Some.line.now (lines_of c.in-Some.after.now) c.loop-line.n so.0 far s.opens
          (g.met.S.EawStore.only_now c.follow_line.new.follower.store)
          (near s.tells s.view first lines c.args.shape c.requires.shape c.loop-line.follower c.follow_line.new.follower c.in-Some.line.now (lines_of c.in-Some.after.now) c.loop-line.n so.0 far s.opens
          (λ t image told le left. g.met.S.EawStore.counts_now c.follow_line.new.follower.store t image told le left)
          (λ image told left. g.met.S.EawStore.only_now c.loop-line.follower.store image told far.goes_on.alive left) c.in-Err.ensures.moments)
          (Unit {0}) c.in-Err.ended end.cut end.text end.holds;
    }

pub returns-in-Err-clause-moments : goal.returns-in-Err-clause-moments
returns-in-Err-clause-moments g c = λ told.
    let s = g.S.EawStore in
    let first = c.args.follower.now in
    let so = c.loop-line.invariant.text in
    let lines = lines_of c.args.input.now in
    let far : SoFar s.tells s.view first c.loop-line.follower lines (c.in-Some.line.now ∷ lines_of c.in-Some.after.now) c.loop-line.n so.0 =
    subst (λ (rest : List (List ℕ)). SoFar s.tells s.view first c.loop-line.follower lines rest c.loop-line.n so.0) c.in-Some.ensures.0 so.2 in
    then (c.loop-line.invariant.moments told)
    (weaker (λ image left. opens_first s.tells s.view first lines c.args.shape c.requires.shape c.loop-line.follower c.follow_line.new.follower c.in-Some.line.now (lines_of c.in-Some.after.now) c.loop-line.n so.0 far s.opens image told left)
    (c.in-Err.ensures.moments told))

pub loop-line-preserved : goal.loop-line-preserved
loop-line-preserved g c =
    let s = g.S.EawStore in
    let first = c.args.follower.now in
    let so = c.loop-line.invariant.text in
    let line = c.in-Ok.ensures.ran in
    let fewer = c.in-Some.ensures.1 in
    let lines = lines_of c.args.input.now in
    let far : SoFar s.tells s.view first c.loop-line.follower lines (c.in-Some.line.now ∷ lines_of c.in-Some.after.now) c.loop-line.n so.0 =
    subst (λ (rest : List (List ℕ)). SoFar s.tells s.view first c.loop-line.follower lines rest c.loop-line.n so.0) c.in-Some.ensures.0 so.2 in
    record {
      text = (
        so.0 ++ line.text,
        λ told. line.wrote told ∙ ap (λ (x : List ℕ). x ++ line.text) (so.1 told) ∙ append_assoc (g.K.Sink.written c.args.sink.now) so.0 line.text,
        goes_on s.tells s.view first lines c.args.shape c.requires.shape c.loop-line.follower c.follow_line.new.follower c.in-Some.line.now (lines_of c.in-Some.after.now) c.loop-line.n so.0 far line.text line.holds.1,
      );
      moments = λ told.
          then (c.loop-line.invariant.moments told)
          (weaker (λ image left. opens_first s.tells s.view first lines c.args.shape c.requires.shape c.loop-line.follower c.follow_line.new.follower c.in-Some.line.now (lines_of c.in-Some.after.now) c.loop-line.n so.0 far s.opens image told left)
          (c.in-Ok.ensures.moments told));
      count = omega (arith, fewer, c.loop-line.invariant.count);
      sink = c.in-Ok.ensures.counts.0 ∙ c.loop-line.invariant.sink;
      media = c.in-Ok.ensures.counts.1 ∙ c.loop-line.invariant.media;
    }

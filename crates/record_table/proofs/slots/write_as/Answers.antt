use Rattle.std.proofs.Common.{refl, sym, ◌∙◌}
use Rattle.std.proofs.lemmas.Bool.{false≢true}
use Rattle.eaw_face.proofs.Mirroring.{none_sent}
use Rattle.record_table.proofs.slots.write_as.Goals as goal

pub returns-then-is_dead-clause-does : goal.returns-then-is_dead-clause-does
returns-then-is_dead-clause-does g c =
    let V = g.S.EawStore.view in
    let store = V c.args.pages.now.store in
    let dead = sym c.is_dead.ensures.dead ∙ c.if-is_dead.true in
    record {
      shape = refl;
      depth = refl;
      cause = dead;
      kept = tt;
      done = tt;
      marks = (refl, refl);
      dies = λ failed. dead;
      others = λ u other. refl;
      time = λ told alive. absurd (false≢true (sym alive ∙ dead));
      mirrors = none_sent g.S.EawStore.tells store store refl refl refl refl (λ fine. fine) (λ told mirrors fine. refl);
      sends = λ mirrors. tt;
      refused = λ mirrors. refl;
    }

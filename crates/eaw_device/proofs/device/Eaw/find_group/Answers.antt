use Rattle.std.proofs.Common.{ℕ, ◌≡◌, List, [], ◌∷◌, Option, None, Some, inl, inr, sym, subst}
use Rattle.std.proofs.lemmas.Result.{err_from_is_err_and}
use Rattle.array_shape.specs.NumberSet.{members}
use Rattle.eaw_face.specs.StoreView.{StoreView, IsLive}
use Rattle.eaw_face.specs.Command.{commit_group}
use Rattle.eaw_face.specs.Causes.{known}
use Rattle.eaw_face.specs.declared.fault.EawFault.{EawFault}
use Rattle.eaw_face.specs.declared.fault.EawFault.TheVariants.{UnknownTid, Dead}
use Rattle.eaw_device.specs.Sound.{LacksLog, LacksGroup, view_of}
use Rattle.eaw_device.proofs.device.Eaw.find_group.Goals as goal

module _ (store : StoreView) (t : ℕ) (later all : List ℕ) (is : all ≡ t ∷ later) where
  -- the first number has a log: the verdict is that on the later ones
  first_lives : IsLive store t → (verdict : Option ℕ) → known store (commit_group later) verdict → known store (commit_group all) verdict
  first_lives lives None good = subst (λ (l : List ℕ). known store (commit_group l) None) (sym is) (lives, good)
  first_lives lives (Some bad) later_bad = subst (λ (l : List ℕ). known store (commit_group l) (Some bad)) (sym is) (inr (lives, later_bad))

  -- it has none: it is the bad one of these, and of the group to which they belong
  first_lacks : (group : List ℕ) → ((verdict : Option ℕ) → known store (commit_group all) verdict → known store (commit_group group) verdict) → (fault : EawFault) → LacksLog store t fault → LacksGroup store group fault
  first_lacks group wider (UnknownTid u) lacks = (lacks.0, wider (Some u) (subst (λ (l : List ℕ). known store (commit_group l) (Some u)) (sym is) (inl (lacks.1, lacks.2))))
  first_lacks group wider Dead lacks = lacks
  first_lacks group wider _ lacks = absurd lacks

pub loop-tid-preserved : goal.loop-tid-preserved
loop-tid-preserved g c = λ verdict later.
    let store = view_of (g.M.Media.view c.args.self.now.media) c.args.self.now.shape c.args.self.now.logs.items c.args.self.now.late c.args.self.now.is_dead in
    c.loop-tid.invariant verdict (first_lives store c.in-Some.tid c.next.new.self c.loop-tid.tid-iterator c.in-Some.ensures.steps c.in_ok-find_live.ensures.live verdict later)

pub returns-in_err-find_live-clause-cause : goal.returns-in_err-find_live-clause-cause
returns-in_err-find_live-clause-cause g c =
    let store = view_of (g.M.Media.view c.args.self.now.media) c.args.self.now.shape c.args.self.now.logs.items c.args.self.now.late c.args.self.now.is_dead in
    let exit = err_from_is_err_and c.from_residual.result c.from_residual.ensures.1 in
    rw (exit.1, exit.2) (first_lacks store c.in-Some.tid c.next.new.self c.loop-tid.tid-iterator c.in-Some.ensures.steps (members c.args.tids) c.loop-tid.invariant c.in_err-find_live.field-0.0 c.in_err-find_live.ensures.cause)

pub returns-clause-live : goal.returns-clause-live
returns-clause-live g c =
    let store = view_of (g.M.Media.view c.args.self.now.media) c.args.self.now.shape c.args.self.now.logs.items c.args.self.now.late c.args.self.now.is_dead in
    c.loop-tid.invariant None (subst (λ (l : List ℕ). known store (commit_group l) None) (sym c.in-None.ensures.steps.0) tt)

use Rattle.std.proofs.Common.{ℕ, suc, refl, List, [], ◌+◌, length, take, drop, get_or, IsTrue, Option, Some, Ok, Err, Result, sym, ◌∙◌, ap, subst, arith}
use Rattle.std.proofs.lemmas.List.{take_all, drop_all}
use Rattle.array_shape.specs.declared.shape.Shape.{Shape}
use Rattle.array_shape.specs.Logged.{Part}
use Rattle.array_shape.specs.Places.{page_count}
use Rattle.eaw_face.specs.State.{listed}
use Rattle.eaw_face.specs.Causes.{IsAlive}
use Rattle.page_store.specs.Command.{write_as, top_end}
use Rattle.page_store.specs.Fits.{FitAll, LacksRoom}
use Rattle.page_store.specs.Shown.{address, pages_of}
use Rattle.page_store.specs.declared.fault.PageFault.{PageFault}
use Rattle.page_store.proofs.Numbers.{with_here}
use Rattle.page_store.proofs.Shown.{IsTold}
use Rattle.index_pages.specs.Parts.{pages_named, parts_named}
use Rattle.index_pages.specs.declared.action.PagePart.{PagePart}
use Rattle.mars_base.specs.Costs.{Costs}
use Rattle.eaw_face.specs.StoreView.{log_len}
use Rattle.page_store.specs.Runs.{Runs, acting_of}
use Rattle.page_store.specs.declared.fault.PageFault.TheVariants.{Dead}
use Rattle.index_pages.proofs.Running.{Running, running_first, running_write, runs_fail, runs_end, runs_none, cost_at, split_here}
use Rattle.index_pages.proofs.Acting.{Acting, acting_begin, acting_write, acting_fail, acting_end, known_of, on_shape, begins_within, acts_none}
use Rattle.index_pages.proofs.Listed.{parts_more, pages_left, inside_at, all_placed}
use Rattle.std.proofs.lemmas.Result.{err_from_is_err_and}
use Rattle.index_pages.proofs.action.act_all.Goals as goal

-- no part
abbrev none : PagePart
none = record { page = 0; at = 0; bytes = record { ref_ptr = (0, 0); now = [] } }

pub write_as-requires-clause-inside : goal.write_as-requires-clause-inside
write_as-requires-clause-inside g c =
    let v0 = g.S.EawStore.view c.args.pages.now.store in
    let p : PagePart = get_or c.args.parts.now c.loop-part.part-index none in
    let inside = (inside_at v0 c.args.parts.now c.loop-part.part-index none c.loop-part-test.true c.requires.inside).1 in
    record { there = omega (arith, inside.there, ap (λ (s : Shape). page_count s) c.loop-part.invariant.acting.shape); within = inside.within }

pub returns-in_err-write_as-clause-acts : goal.returns-in_err-write_as-clause-acts
returns-in_err-write_as-clause-acts g c =
    let exit = err_from_is_err_and c.from_residual-in_err-write_as.result c.from_residual-in_err-write_as.ensures.1 in
    rw (exit.1, exit.2) (
    let T = g.S.EawStore.tells in
    let V = g.S.EawStore.view in
    let E = g.S.EawStore.opens in
    let O = g.S.EawStore.opens (V c.args.pages.now.store).shape in
    let t = c.args.tid in
    let v0 = pages_of (V c.args.pages.now.store) c.args.pages.now in
    let v1 = pages_of (V c.loop-part.pages.store) c.loop-part.pages in
    let v2 = pages_of (V c.write_as.new.self.store) c.write_as.new.self in
    let i = c.loop-part.part-index in
    let ps = c.args.parts.now in
    let p : PagePart = get_or ps i none in
    let inside = inside_at v0.store ps i none c.loop-part-test.true c.requires.inside in
    let acting = subst (λ (l : List ℕ). Acting T O t v0 v1 (parts_named (take i ps)) l) (pages_left ps i none c.loop-part-test.true) c.loop-part.invariant.acting in
    let e : Result (Unit {0}) PageFault = Err c.in_err-write_as.field-0.0 in
    acting_fail T O t v0 v1 v2 (parts_named (take i ps)) p.page (pages_named (drop (i + 1) ps)) p.at p.bytes.now (begins_within v0.store p.page p.at (length p.bytes.now) inside.0 inside.1) acting
    c.in_err-write_as.field-0.0 c.in_ok-fits.ensures.fits.0 (pages_named ps) (parts_named ps) (on_shape T E (write_as t (address p.page p.at) p.bytes.now) v0 v1 v2 e acting.shape c.in_err-write_as.ensures.does))

pub loop-part-preserved : goal.loop-part-preserved
loop-part-preserved g c =
    let T = g.S.EawStore.tells in
    let V = g.S.EawStore.view in
    let E = g.S.EawStore.opens in
    let O = g.S.EawStore.opens (V c.args.pages.now.store).shape in
    let t = c.args.tid in
    let v0 = pages_of (V c.args.pages.now.store) c.args.pages.now in
    let v1 = pages_of (V c.loop-part.pages.store) c.loop-part.pages in
    let v2 = pages_of (V c.write_as.new.self.store) c.write_as.new.self in
    let i = c.loop-part.part-index in
    let ps = c.args.parts.now in
    let p : PagePart = get_or ps i none in
    let inside = inside_at v0.store ps i none c.loop-part-test.true c.requires.inside in
    let acting = subst (λ (l : List ℕ). Acting T O t v0 v1 (parts_named (take i ps)) l) (pages_left ps i none c.loop-part-test.true) c.loop-part.invariant.acting in
    let r : Result (Unit {0}) PageFault = Ok tt in
    record {
      acting = subst (λ (l : List Part). Acting T O t v0 v2 l (pages_named (drop (i + 1) ps))) (sym (parts_more ps i none c.loop-part-test.true))
          (acting_write T O t v0 v1 v2 (parts_named (take i ps)) p.page (pages_named (drop (i + 1) ps)) p.at p.bytes.now (begins_within v0.store p.page p.at (length p.bytes.now) inside.0 inside.1) acting
          (on_shape T E (write_as t (address p.page p.at) p.bytes.now) v0 v1 v2 r acting.shape c.in_ok-write_as.ensures.does));
      running = subst (λ (l : List Part). Running T V g.S.EawStore.calls t l v0.store v2.store) (sym (parts_more ps i none c.loop-part-test.true))
          (running_write T V g.S.EawStore.calls t (parts_named (take i ps)) v0.store c.loop-part.pages c.loop-part.invariant.running v2.store (address p.page p.at, p.bytes.now) c.in_ok-write_as.ensures.costs);
    }

pub top_end-requires-clause-open : goal.top_end-requires-clause-open
top_end-requires-clause-open g c =
    let v0 = pages_of (g.S.EawStore.view c.args.pages.now.store) c.args.pages.now in
    let t = c.args.tid in
    λ living. ap (λ (f : ℕ → Option ℕ). f t) c.loop-part.invariant.acting.tops ∙ with_here v0.top t (Some (length (listed (v0.store.ranges t)))) ∙ ap (λ (n : ℕ). Some n) (sym c.top_begin-mark.ensures.mark)

pub returns-clause-acts : goal.returns-clause-acts
returns-clause-acts g c =
    let T = g.S.EawStore.tells in
    let V = g.S.EawStore.view in
    let E = g.S.EawStore.opens in
    let O = g.S.EawStore.opens (V c.args.pages.now.store).shape in
    let t = c.args.tid in
    let v0 = pages_of (V c.args.pages.now.store) c.args.pages.now in
    let v1 = pages_of (V c.loop-part.pages.store) c.loop-part.pages in
    let v2 = pages_of (V c.top_end.new.self.store) c.top_end.new.self in
    let i = c.loop-part.part-index in
    let ps = c.args.parts.now in
    let alive : IsAlive v0.store = c.in_ok-fits.ensures.fits.0 in
    let told : IsTrue T → IsTold v0.store = λ tell. record {
      long = g.met.S.EawStore.long c.args.pages.now.store tell;
      outlines = λ u. g.met.S.EawStore.outlines c.args.pages.now.store u tell alive;
      placed = g.met.S.EawStore.placed c.args.pages.now.store;
    } in
    let fits : FitAll v0.store t (pages_named ps) = subst (λ (l : List ℕ). FitAll v0.store t l) (c.as_slice.ensures.value ∙ c.pages_in.ensures) c.in_ok-fits.ensures.fits.1 in
    let acting : Acting T O t v0 v1 (parts_named ps) [] =
    subst (λ (l : List PagePart). Acting T O t v0 v1 (parts_named l) []) (take_all i ps (omega (arith, c.loop-part-test.false)))
    (subst (λ (l : List PagePart). Acting T O t v0 v1 (parts_named (take i ps)) (pages_named l)) (drop_all i ps (omega (arith, c.loop-part-test.false))) c.loop-part.invariant.acting) in
    acting_end T O t v0 v1 v2 (parts_named ps) acting alive (c.requires.closed alive) (pages_named ps) fits c.top_begin-mark.result c.top_begin-mark.ensures.mark (all_placed v0.store ps c.requires.inside)
    (λ tell. known_of v0 t (told tell) (c.if-is_dead.ensures.ordered alive))
    c.top_end.result (on_shape T E (top_end t c.top_begin-mark.result) v0 v1 v2 c.top_end.result acting.shape c.top_end.ensures.does)

pub loop-part-init : goal.loop-part-init
loop-part-init g c =
    let T = g.S.EawStore.tells in
    let V = g.S.EawStore.view in
    let O = g.S.EawStore.opens (V c.args.pages.now.store).shape in
    let t = c.args.tid in
    let v0 = pages_of (V c.args.pages.now.store) c.args.pages.now in
    let v1 = pages_of (V c.top_begin-mark.new.self.store) c.top_begin-mark.new.self in
    let ps = c.args.parts.now in
    let alive : IsAlive v0.store = c.in_ok-fits.ensures.fits.0 in
    let fits : FitAll v0.store t (pages_named ps) = subst (λ (l : List ℕ). FitAll v0.store t l) (c.as_slice.ensures.value ∙ c.pages_in.ensures) c.in_ok-fits.ensures.fits.1 in
    record {
      acting = acting_begin T O t v0 v1 (pages_named ps) alive fits (c.top_begin-mark.ensures.begun alive) (ap V c.top_begin-mark.ensures.idle);
      running = running_first T V g.S.EawStore.calls t v0.store v1.store (ap (λ (s : g.row.S.Denot). (V s).moment) c.top_begin-mark.ensures.idle);
    }

pub returns-in_err-write_as-clause-runs : goal.returns-in_err-write_as-clause-runs
returns-in_err-write_as-clause-runs g c =
    let exit = err_from_is_err_and c.from_residual-in_err-write_as.result c.from_residual-in_err-write_as.ensures.1 in
    rw (exit.1, exit.2) (
    let T = g.S.EawStore.tells in
    let V = g.S.EawStore.view in
    let t = c.args.tid in
    let old = V c.args.pages.now.store in
    let new = V c.write_as.new.self.store in
    let i = c.loop-part.part-index in
    let ps = c.args.parts.now in
    let p : PagePart = get_or ps i none in
    let r : Result (Unit {0}) PageFault = Err c.in_err-write_as.field-0.0 in
    subst (λ (l : List Part). Runs T V g.S.EawStore.calls (acting_of t (log_len old t) l) old new r) (split_here ps i none c.loop-part-test.true)
    (runs_fail T V g.S.EawStore.calls t (parts_named (take i ps)) old c.loop-part.pages c.loop-part.invariant.running new (address p.page p.at, p.bytes.now) (parts_named (drop (suc i) ps)) (log_len old t) c.in_err-write_as.field-0.0
    c.in_err-write_as.ensures.costs))

pub returns-clause-runs : goal.returns-clause-runs
returns-clause-runs g c =
    let T = g.S.EawStore.tells in
    let V = g.S.EawStore.view in
    let t = c.args.tid in
    let old = V c.args.pages.now.store in
    let new = V c.top_end.new.self.store in
    let i = c.loop-part.part-index in
    let ps = c.args.parts.now in
    subst (λ (l : List PagePart). Runs T V g.S.EawStore.calls (acting_of t (log_len old t) (parts_named l)) old new c.top_end.result) (take_all i ps (omega (arith, c.loop-part-test.false)))
    (runs_end T V g.S.EawStore.calls t (parts_named (take i ps)) old c.loop-part.pages c.loop-part.invariant.running new (log_len old t) c.top_end.result
    (subst (λ (m : ℕ). Costs T (cost_at T V g.S.EawStore.calls t c.loop-part.pages (top_end t m)) (V c.loop-part.pages.store).moment new.moment c.top_end.result) c.top_begin-mark.ensures.mark c.top_end.ensures.costs))

pub returns-then-is_dead-clause-runs : goal.returns-then-is_dead-clause-runs
returns-then-is_dead-clause-runs g c =
    let V = g.S.EawStore.view in
    runs_none g.S.EawStore.tells V g.S.EawStore.calls c.args.tid (acting_of c.args.tid (log_len (V c.args.pages.now.store) c.args.tid) (parts_named c.args.parts.now)) (V c.args.pages.now.store) (V c.args.pages.now.store) Dead refl

pub returns-in_err-fits-clause-runs : goal.returns-in_err-fits-clause-runs
returns-in_err-fits-clause-runs g c =
    let exit = err_from_is_err_and c.from_residual.result c.from_residual.ensures.1 in
    rw (exit.1, exit.2) (
    let V = g.S.EawStore.view in
    runs_none g.S.EawStore.tells V g.S.EawStore.calls c.args.tid (acting_of c.args.tid (log_len (V c.args.pages.now.store) c.args.tid) (parts_named c.args.parts.now)) (V c.args.pages.now.store) (V c.args.pages.now.store) c.in_err-fits.field-0.0 refl)

pub returns-then-is_dead-clause-acts : goal.returns-then-is_dead-clause-acts
returns-then-is_dead-clause-acts g c =
    let view = g.S.EawStore.view c.args.pages.now.store in
    acts_none g.S.EawStore.tells (g.S.EawStore.opens view.shape) c.args.tid (pages_of view c.args.pages.now) (pages_named c.args.parts.now) (parts_named c.args.parts.now) Dead (sym c.if-is_dead.ensures.dead)

pub returns-in_err-fits-clause-acts : goal.returns-in_err-fits-clause-acts
returns-in_err-fits-clause-acts g c =
    let exit = err_from_is_err_and c.from_residual.result c.from_residual.ensures.1 in
    rw (exit.1, exit.2) (
    let view = g.S.EawStore.view c.args.pages.now.store in
    acts_none g.S.EawStore.tells (g.S.EawStore.opens view.shape) c.args.tid (pages_of view c.args.pages.now) (pages_named c.args.parts.now) (parts_named c.args.parts.now) c.in_err-fits.field-0.0
    (subst (λ (l : List ℕ). LacksRoom view c.args.tid l c.in_err-fits.field-0.0) (c.as_slice.ensures.value ∙ c.pages_in.ensures) c.in_err-fits.ensures.full))

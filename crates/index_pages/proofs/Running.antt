-- What the writes of an action cost, one after another, and then its end.
use Rattle.std.proofs.Common.{◌≡◌, ℕ, zero, suc, ◌+◌, ◌<◌, ◌≤◌, Bool, List, [], ◌∷◌, ◌++◌, append_assoc, length, get_or, take, drop, Result, Ok, Err, refl, sym, ◌∙◌, ap, subst, arith}
use Rattle.std.specs.Prelude.{IsTrue, OnOk, sum}
use Rattle.std.proofs.lemmas.List.{append-nil}
use Rattle.std.proofs.lemmas.List.Sums.{sum_by_push}
use Rattle.mars_base.specs.Costs.{Costs}
use Rattle.std.specs.List.{AllZip}
use Rattle.array_shape.specs.Logged.{Part}
use Rattle.eaw_face.specs.Command as store
use Rattle.eaw_face.specs.StoreView.{StoreView}
use Rattle.page_store.specs.Command.{PageCommand, write_as, top_end}
use Rattle.page_store.specs.Device.{device, device_cost}
use Rattle.page_store.specs.Runs.{Runs, IsCost, writes_of, acting_of}
use Rattle.page_store.specs.Shown.{Shown, address, outline_of, pages_of}
use Rattle.page_store.specs.declared.fault.PageFault.{PageFault}
use Rattle.index_pages.specs.Parts.{parts_named}
use Rattle.index_pages.specs.declared.action.PagePart.{PagePart}

sum_snoc : (ns : List ℕ) (n : ℕ) → sum (ns ++ n ∷ []) ≡ sum ns + n
sum_snoc ns n = sum_by_push (λ (m : ℕ). m) ns n

writes_append : (t : ℕ) (xs ys : List Part) → writes_of t (xs ++ ys) ≡ writes_of t xs ++ writes_of t ys
writes_append t [] ys = refl
writes_append t (x ∷ xs) ys = ap (λ (cs : List PageCommand). write_as t x.0 x.1 ∷ cs) (writes_append t xs ys)

-- the parts of a front and of the rest
named_split : (ps : List PagePart) (n : ℕ) → parts_named (take n ps) ++ parts_named (drop n ps) ≡ parts_named ps
named_split [] zero = refl
named_split [] (suc n) = refl
named_split (p ∷ ps) zero = refl
named_split (p ∷ ps) (suc n) = ap (λ (l : List Part). parts_named (p ∷ []) ++ l) (named_split ps n)

-- the rest begins with the next part
rest_named : (ps : List PagePart) (i : ℕ) (d : PagePart) → i < length ps
    → parts_named (drop i ps) ≡ (address (get_or ps i d).page (get_or ps i d).at, (get_or ps i d).bytes.now) ∷ parts_named (drop (suc i) ps)
rest_named [] i d lt = absurd (omega arith)
rest_named (p ∷ ps) zero d lt = refl
rest_named (p ∷ ps) (suc i) d lt = rest_named ps i d (omega arith)

pub split_here : (ps : List PagePart) (i : ℕ) (d : PagePart) → i < length ps
    → parts_named (take i ps) ++ (address (get_or ps i d).page (get_or ps i d).at, (get_or ps i d).bytes.now) ∷ parts_named (drop (suc i) ps) ≡ parts_named ps
split_here ps i d lt = ap (λ (l : List Part). parts_named (take i ps) ++ l) (sym (rest_named ps i d lt)) ∙ named_split ps i

if_done : {A B : Type 0} (r : Result (Unit {0}) PageFault) → (A → B) → OnOk r A → OnOk r B
if_done (Ok done) f a = f a
if_done (Err fault) f a = tt

always : {A : Type 0} (r : Result (Unit {0}) PageFault) → A → OnOk r A
always (Ok done) a = a
always (Err fault) a = tt

module _ {S : Type 0} (tells : Bool) (view : S → StoreView) (calls : S → store.Command → ℕ) (t : ℕ) where
  costs_snoc : (cs : List PageCommand) (ns : List ℕ) (c : PageCommand) (n : ℕ) → AllZip (IsCost view calls) cs ns → IsCost view calls c n → AllZip (IsCost view calls) (cs ++ c ∷ []) (ns ++ n ∷ [])
  costs_snoc [] [] c n are is = (is, tt)
  costs_snoc [] (m ∷ ns) c n are is = absurd are
  costs_snoc (d ∷ cs) [] c n are is = absurd are
  costs_snoc (d ∷ cs) (m ∷ ns) c n are is = (are.0, costs_snoc cs ns c n are.1 is)

  -- the calls of a command that is given here
  abbrev pub cost_at : Shown S → PageCommand → ℕ
  cost_at at command = device_cost (calls at.store) (device command (outline_of (pages_of (view at.store) at)))

  -- these parts were written, and nothing else was done
  pub record Running (parts : List Part) (old new : StoreView) : Type 0 where
    pub costs : List ℕ
    pub each : AllZip (IsCost view calls) (writes_of t parts) costs
    pub most : new.moment ≤ old.moment + sum costs
    pub exact : IsTrue tells → new.moment ≡ old.moment + sum costs

  pub running_first : (old new : StoreView) → new.moment ≡ old.moment → Running [] old new
  running_first old new same = record { costs = []; each = tt; most = omega (arith, same); exact = λ told. omega (arith, same) }

  module _ (parts : List Part) (old : StoreView) (at : Shown S) (running : Running parts old (view at.store)) (new : StoreView) where
    -- one part more
    pub running_write : (part : Part) → (let r : Result (Unit {0}) PageFault = Ok tt in Costs tells (cost_at at (write_as t part.0 part.1)) (view at.store).moment new.moment r) → Running (parts ++ part ∷ []) old new
    running_write part costs =
        let n = cost_at at (write_as t part.0 part.1) in
        let all = sum_snoc running.costs n in
        record {
          costs = running.costs ++ n ∷ [];
          each = subst (λ (cs : List PageCommand). AllZip (IsCost view calls) cs (running.costs ++ n ∷ [])) (sym (writes_append t parts (part ∷ [])))
              (costs_snoc (writes_of t parts) running.costs (write_as t part.0 part.1) n running.each (at, refl));
          most = omega (arith, all, running.most, costs.most);
          exact = λ told. omega (arith, all, running.exact told, costs.done told);
        }

    -- a write that failed, before these parts
    pub runs_fail : (part : Part) (rest : List Part) (mark : ℕ) (fault : PageFault) → (let r : Result (Unit {0}) PageFault = Err fault in Costs tells (cost_at at (write_as t part.0 part.1)) (view at.store).moment new.moment r)
        → (let r : Result (Unit {0}) PageFault = Err fault in Runs tells view calls (acting_of t mark (parts ++ part ∷ rest)) old new r)
    runs_fail part rest mark fault costs =
        let n = cost_at at (write_as t part.0 part.1) in
        let all = sum_snoc running.costs n in
        record {
          made = writes_of t parts ++ write_as t part.0 part.1 ∷ [];
          left = writes_of t rest ++ top_end t mark ∷ [];
          costs = running.costs ++ n ∷ [];
          these = append_assoc (writes_of t parts) (write_as t part.0 part.1 ∷ []) (writes_of t rest ++ top_end t mark ∷ [])
              ∙ sym (append_assoc (writes_of t parts) (write_as t part.0 part.1 ∷ writes_of t rest) (top_end t mark ∷ []))
              ∙ ap (λ (cs : List PageCommand). cs ++ top_end t mark ∷ []) (sym (writes_append t parts (part ∷ rest)));
          each = costs_snoc (writes_of t parts) running.costs (write_as t part.0 part.1) n running.each (at, refl);
          all = tt;
          most = omega (arith, all, running.most, costs.most);
          exact = λ told. tt;
        }

    -- the end of the action
    pub runs_end : (mark : ℕ) (r : Result (Unit {0}) PageFault) → Costs tells (cost_at at (top_end t mark)) (view at.store).moment new.moment r → Runs tells view calls (acting_of t mark parts) old new r
    runs_end mark r costs =
        let n = cost_at at (top_end t mark) in
        let all = sum_snoc running.costs n in
        record {
          made = acting_of t mark parts;
          left = [];
          costs = running.costs ++ n ∷ [];
          these = append-nil (acting_of t mark parts);
          each = costs_snoc (writes_of t parts) running.costs (top_end t mark) n running.each (at, refl);
          all = always r refl;
          most = omega (arith, all, running.most, costs.most);
          exact = λ told. if_done r (λ now. omega (arith, all, running.exact told, now)) (costs.done told);
        }

  -- nothing was done
  pub runs_none : {T : Type 0} (commands : List PageCommand) (old new : StoreView) (fault : PageFault) → new.moment ≡ old.moment → (let r : Result T PageFault = Err fault in Runs tells view calls commands old new r)
  runs_none commands old new fault same = record {
    made = [];
    left = commands;
    costs = [];
    these = refl;
    each = tt;
    all = tt;
    most = omega (arith, same);
    exact = λ told. tt;
  }

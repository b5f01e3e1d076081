-- Copies of what the numbers of a store have logged, as a commit of several numbers changes it.
use Rattle.std.proofs.Common.{◌≡◌, ℕ, ◌<◌, Bool, true, false, cond, List, [], ◌∷◌, length, refl, sym, ◌∙◌, ap, subst, arith}
use Rattle.std.specs.Prelude.{IsTrue, All, Option, None, flat_map}
use Rattle.std.proofs.lemmas.List.Elements.{All-nil, All-cons}
use Rattle.array_shape.specs.declared.shape.Shape.{Shape}
use Rattle.array_shape.specs.Logged.{Part, applied, ranges_of}
use Rattle.eaw_face.specs.State.{Logs, listed, is_one_of, with_each, group_log}
use Rattle.eaw_face.specs.StoreView.{StoreView, ArePlaced}
use Rattle.eaw_face.specs.Command.{commit_group}
use Rattle.eaw_face.specs.Causes.{known, fit}
use Rattle.mirror.specs.Log.{Log}
use Rattle.mirror.specs.Log.{log_at}
use Rattle.eaw_face.specs.Frame.{Group}
use Rattle.mirror.specs.Groups.{IsSendableAt, AreSendable, groups_of}
use Rattle.mirror.specs.Mirroring.{IsCopy, AreLogs, AreCopies, IsFreed}
use Rattle.mirror.proofs.Copies.{copy_sendable}
use Rattle.mirror.proofs.Mirrored.{groups_data}

module _ (tells : Bool) (old : StoreView) (logs : List Log) (copies : AreCopies tells old logs) (alive : old.is_dead ≡ false) where
  -- what live numbers have logged can be sent
  pub group_sendable : (shape : Shape) → shape ≡ old.shape → ((t : ℕ) → ArePlaced old.shape (listed (old.ranges t))) → (ts : List ℕ) → known old (commit_group ts) None → AreSendable shape logs ts
  group_sendable shape same placed ts live = subst (λ (s : Shape). AreSendable s logs ts) (sym same) (go ts live)
    where
      go : (ts : List ℕ) → known old (commit_group ts) None → AreSendable old.shape logs ts
      go [] live = All-nil (IsSendableAt old.shape logs)
      go (t ∷ ts) live = All-cons (IsSendableAt old.shape logs) t ts (record {
        number = live.0.small;
        here = omega (arith, copies.are.numbers, live.0.small);
        log = copy_sendable tells old t (log_at logs t).parts (copies.copies alive t live.0.small) (placed t);
      }) (go ts live.1)

  pub group_within : (ts : List ℕ) → known old (commit_group ts) None → All (λ t. t < length logs) ts
  group_within [] live = All-nil (λ t. t < length logs)
  group_within (t ∷ ts) live = All-cons (λ t. t < length logs) t ts (omega (arith, copies.are.numbers, live.0.small)) (group_within ts live.1)

  -- the data after the commit
  pub group_data : (new : StoreView) (ts : List ℕ) → known old (commit_group ts) None → (IsTrue tells → new.state.bytes ≡ applied (group_log old.state.logs ts) old.state.bytes)
      → IsTrue tells → new.state.bytes ≡ applied (flat_map (λ (g : Group). g.parts) (groups_of logs ts)) old.state.bytes
  group_data new ts live written told = written told ∙ ap (λ (ps : List Part). applied ps old.state.bytes) (sym (groups_data logs old.state.logs ts (go ts live)))
    where
      go : (ts : List ℕ) → known old (commit_group ts) None → All (λ t. (log_at logs t).parts ≡ listed (old.state.logs t)) ts
      go [] live = All-nil (λ t. (log_at logs t).parts ≡ listed (old.state.logs t))
      go (t ∷ ts) live = All-cons (λ t. (log_at logs t).parts ≡ listed (old.state.logs t)) t ts ((copies.copies alive t live.0.small).parts_are told) (go ts live.1)

  -- the logs of the group are freed
  module _ (new : StoreView) (logs' : List Log) (ts : List ℕ) (len : length logs' ≡ length logs) (freed : (t : ℕ) → IsFreed ts t (log_at logs t) (log_at logs' t)) (shape : new.shape ≡ old.shape)
      (ranges : new.ranges ≡ with_each old.ranges ts None) (state : IsTrue tells → new.state.logs ≡ with_each old.state.logs ts None) where
    no_room : fit old.shape [] [] None
    no_room g lt = omega arith

    one_copy : (t : ℕ) → t < old.shape.numbers → (b : Bool) → is_one_of ts t ≡ b → IsCopy tells new t (log_at logs' t).parts
    one_copy t small true so =
        let no : Option (List (ℕ × ℕ)) = None in
        let none : Option (List Part) = None in
        let gone : new.ranges t ≡ None = ap (λ (r : Logs (ℕ × ℕ)). r t) ranges ∙ ap (λ (b : Bool). cond b no (old.ranges t)) so in
        subst (IsCopy tells new t) (sym ((freed t).here so)) (record {
          ranges = ap listed (sym gone);
          parts_are = λ told. ap listed (sym (ap (λ (ls : Logs Part). ls t) (state told) ∙ ap (λ (b : Bool). cond b none (old.state.logs t)) so));
          room = subst (λ (s : Shape). fit s [] [] None) (sym shape) no_room;
        })
    one_copy t small false so =
        let no : Option (List (ℕ × ℕ)) = None in
        let none : Option (List Part) = None in
        let copy = copies.copies alive t small in
        let kept : new.ranges t ≡ old.ranges t = ap (λ (r : Logs (ℕ × ℕ)). r t) ranges ∙ ap (λ (b : Bool). cond b no (old.ranges t)) so in
        subst (IsCopy tells new t) (sym ((freed t).there so)) (record {
          ranges = copy.ranges ∙ ap listed (sym kept);
          parts_are = λ told. copy.parts_are told ∙ ap listed (sym (ap (λ (ls : Logs Part). ls t) (state told) ∙ ap (λ (b : Bool). cond b none (old.state.logs t)) so));
          room = subst (λ (s : Shape). fit s [] (ranges_of (log_at logs t).parts) None) (sym shape) copy.room;
        })

    pub group_copies : AreCopies tells new logs'
    group_copies = record {
      are = subst (λ (s : Shape). AreLogs s logs') (sym shape) (record { numbers = len ∙ copies.are.numbers; room = λ t small. (freed t).room ∙ copies.are.room t small });
      copies = λ still t within. one_copy t (subst (λ (s : Shape). t < s.numbers) shape within) (is_one_of ts t) refl;
    }

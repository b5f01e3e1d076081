-- What a command of a store that mirrors sends.
use Rattle.std.proofs.Common.{◌≡◌, ◌≢◌, ℕ, ◌+◌, ◌≤◌, inl, inr, ⊎_elim, Bool, true, false, List, [], ◌∷◌, ◌++◌, length, drop, Result, Ok, Err, refl, sym, ◌∙◌, ap, arith}
use Rattle.std.specs.Prelude.{IsTrue, All, flat_map, IfErr, OnOk, OnErr}
use Rattle.std.proofs.lemmas.Bool.{false≢true}
use Rattle.std.proofs.lemmas.Result.{on_ok_weaker}
use Rattle.std.proofs.lemmas.List.{append-nil}
use Rattle.std.proofs.lemmas.List.Elements.{All-nil, All-cons, All-head, All-tail}
use Rattle.std.proofs.lemmas.List.Concat.{flat_map-append}
use Rattle.array_shape.specs.declared.shape.Shape.{Shape}
use Rattle.array_shape.specs.Logged.{Part, applied}
use Rattle.eaw_face.specs.State.{State, Logs, listed, group_log}
use Rattle.mirror.specs.Log.{Log}
use Rattle.mirror.specs.Log.{log_at}
use Rattle.eaw_face.specs.StoreView.{StoreView}
use Rattle.eaw_face.specs.Command.{Command, after as command_after}
use Rattle.eaw_face.specs.Does.{Does}
use Rattle.eaw_face.specs.declared.fault.EawFault.{EawFault}
use Rattle.eaw_face.specs.declared.fault.EawFault.TheVariants.{UnknownTid, LogFull, Media, Dead}
use Rattle.eaw_face.specs.Frame.{Group, Frame, IsFrameIn}
use Rattle.eaw_face.specs.Sending.{Sending}
use Rattle.mirror.specs.Sending.{group_of, next_frame, Sends, WasSent, NotSent}
use Rattle.mirror.specs.Groups.{groups_of}
use Rattle.mirror.specs.Mirroring.{over}
use Rattle.eaw_face.specs.Mirroring.{Adds, Mirrors, IsKindOf}
use Rattle.eaw_face.specs.Due.{groups_due, ranges_due, AreDue, SendsDue}
use Rattle.eaw_face.proofs.Mirroring.{none_sent}
use Rattle.mirror.proofs.Over.{does_over}

-- no frame was added if none was counted
added_none : (shape : Shape) (fs : List Frame) (old new : Sending) → Adds shape fs old new → new ≡ old → fs ≡ []
added_none shape [] old new adds same = refl
added_none shape (f ∷ fs) old new adds same = absurd (omega (arith, adds.count, ap (λ (s : Sending). s.sent) same))

on_err : {T E X : Type 0} (r : Result T E) → X → OnErr r X
on_err (Ok y) x = tt
on_err (Err e) x = x

module _ {T : Type 0} (tells : Bool) (Opens : List ℕ → List ℕ → Type 0) (command : Command) (old new : Sending) (before after : StoreView) where
  -- a command that sends nothing, and leaves the data: if it is done, it commits nothing
  still : (result : Result T EawFault) → Does tells Opens command before after result → new ≡ old → OnOk result (AreDue tells command (over before old) [])
      → (IsTrue tells → after.is_dead ≡ false → after.state.bytes ≡ before.state.bytes) → Does tells Opens command (over before old) (over after new) result
  still result does same due same_data =
      let m : Mirrors tells (over before old) (over after new) = none_sent tells (over before old) (over after new) does.shape does.depth does.mirrors.device same does.mirrors.lived (λ told mirrors alive. same_data told alive) in
      let none = added_none before.shape m.added old new m.adds same in
      does_over tells Opens command before after old new result does m
      (omega (arith, ap (λ (s : Sending). s.sent) same))
      (on_ok_weaker result (λ are mirrors. record {
        groups = [];
        due = are;
        none = λ is. same;
        sent = λ up. none;
        unsent = λ down. none;
        ended = λ down. inl (sym (ap (λ (s : Sending). s.is_down) same) ∙ down);
      }) due)
      (on_err result same)

  -- a command that was refused
  pub refused : (fault : EawFault) → (let result : Result T EawFault = Err fault in Does tells Opens command before after result) → new ≡ old → (fault ≢ Media → after.state.bytes ≡ before.state.bytes)
      → (let result : Result T EawFault = Err fault in Does tells Opens command (over before old) (over after new) result)
  refused Media does same kept = still (Err Media) does same tt (λ told alive. absurd (false≢true (sym alive ∙ does.dies refl)))
  refused Dead does same kept = still (Err Dead) does same tt (λ told alive. kept (λ is. cc))
  refused (UnknownTid u) does same kept = still (Err (UnknownTid u)) does same tt (λ told alive. kept (λ is. cc))
  refused (LogFull g h n) does same kept = still (Err (LogFull g h n)) does same tt (λ told alive. kept (λ is. cc))

  -- a command that is done, and commits nothing
  pub done_quiet : (answer : T) → (let result : Result T EawFault = Ok answer in Does tells Opens command before after result) → new ≡ old → groups_due command before ≡ [] → ranges_due command before ≡ []
      → (command_after command before.state).bytes ≡ before.state.bytes → (let result : Result T EawFault = Ok answer in Does tells Opens command (over before old) (over after new) result)
  done_quiet answer does same no_groups no_ranges keeps =
      still (Ok answer) does same (record { parts = λ told. sym no_groups; ranges = sym no_ranges }) (λ told alive. ap (λ (s : State). s.bytes) (does.done.state told) ∙ keeps)

  -- a command that commits nothing, with either answer
  pub passed_on : {X : Type 0} (result : Result T EawFault) → Does tells Opens command before after result → new ≡ old → groups_due command before ≡ [] → ranges_due command before ≡ []
      → (command_after command before.state).bytes ≡ before.state.bytes → IfErr result (λ fault. fault ≢ Media → X) → (X → after.state.bytes ≡ before.state.bytes) → Does tells Opens command (over before old) (over after new) result
  passed_on (Ok answer) does same no_groups no_ranges keeps refuses kept = done_quiet answer does same no_groups no_ranges keeps
  passed_on (Err fault) does same no_groups no_ranges keeps refuses kept = refused fault does same (λ ne. kept (refuses ne))

  -- a commit that is done
  pub mirrored : (answer : T) (groups : List Group) → (let result : Result T EawFault = Ok answer in Does tells Opens command before after result) → IsKindOf old new → old.mirrors ≡ true → Sends old.told before.shape groups old new → AreDue tells command before groups
      → (IsTrue tells → after.state.bytes ≡ applied (flat_map (λ (g : Group). g.parts) groups) before.state.bytes) → (let result : Result T EawFault = Ok answer in Does tells Opens command (over before old) (over after new) result)
  mirrored answer [] does kind mirrors sends due same_data = still (Ok answer) does sends (record { parts = due.parts; ranges = due.ranges }) (λ told alive. same_data told)
  mirrored answer (g ∷ gs) does kind mirrors sends due same_data = ⊎_elim sent not_sent sends
    where
      lifted : (m : Mirrors tells (over before old) (over after new)) → new.sent ≤ old.sent + 1 → SendsDue tells command m.added (over before old) (over after new)
          → (let result : Result T EawFault = Ok answer in Does tells Opens command (over before old) (over after new) result)
      lifted m one sends = does_over tells Opens command before after old new (Ok answer) does m one (λ is. sends) tt

      here : AreDue tells command (over before old) (g ∷ gs)
      here = record { parts = due.parts; ranges = due.ranges }

      sent : WasSent old.told before.shape (g ∷ gs) old new → (let result : Result T EawFault = Ok answer in Does tells Opens command (over before old) (over after new) result)
      sent was = lifted (record {
        added = next_frame old (g ∷ gs) ∷ [];
        shape = does.shape;
        depth = does.depth;
        device = does.mirrors.device;
        kind = kind;
        adds = record {
          good = All-cons (IsFrameIn before.shape) (next_frame old (g ∷ gs)) [] was.good (All-nil (IsFrameIn before.shape));
          sequence = (refl, tt);
          count = was.count;
          frames = was.frames;
        };
        ends = record {
          later = let e = was.faults in omega (arith, e);
          cause = λ down. absurd (false≢true (sym was.goes_on ∙ down));
          goes_on = λ on. was.faults;
          ended = λ down. absurd (false≢true (sym was.went_on ∙ down));
        };
        none = λ not. absurd (false≢true (sym not ∙ mirrors));
        lived = does.mirrors.lived;
        data_is = λ told mirrors up alive. same_data told;
      }) (let e = was.count in omega (arith, e)) (record {
        groups = g ∷ gs;
        due = here;
        none = λ is. absurd (let long = ap (λ (l : List Group). length l) is in omega (arith, long));
        sent = λ up. refl;
        unsent = λ down. absurd (false≢true (sym was.goes_on ∙ down));
        ended = λ down. absurd (false≢true (sym was.goes_on ∙ down));
      })

      not_sent : NotSent old.told old new → (let result : Result T EawFault = Ok answer in Does tells Opens command (over before old) (over after new) result)
      not_sent not = lifted (record {
        added = [];
        shape = does.shape;
        depth = does.depth;
        device = does.mirrors.device;
        kind = kind;
        adds = record {
          good = All-nil (IsFrameIn before.shape);
          sequence = tt;
          count = let e = not.count in omega (arith, e);
          frames = λ told. not.frames told ∙ sym (append-nil old.frames);
        };
        ends = record {
          later = not.later;
          cause = λ down. ⊎_elim (λ was. inl was.0) (λ then. ⊎_elim (λ last. inr (inl (let e = not.count in omega (arith, e, last.0)))) (λ rose. inr (inr rose)) then) not.cause;
          goes_on = λ on. absurd (false≢true (sym on ∙ not.ended));
          ended = λ down. (not.ended, refl);
        };
        none = λ is. refl;
        lived = does.mirrors.lived;
        data_is = λ told mirrors up alive. absurd (false≢true (sym up ∙ not.ended));
      }) (let e = not.count in omega (arith, e)) (record {
        groups = g ∷ gs;
        due = here;
        none = λ is. absurd (let long = ap (λ (l : List Group). length l) is in omega (arith, long));
        sent = λ up. absurd (false≢true (sym up ∙ not.ended));
        unsent = λ down. refl;
        ended = λ down. ⊎_elim (λ was. inl was.0) (λ then. inr (omega arith, ⊎_elim (λ last. inl last.0) (λ rose. inr rose) then)) not.cause;
      })

-- what the parts of a number are as groups, and as parts again
pub group_parts : (t : ℕ) (ps : List Part) → flat_map (λ (g : Group). g.parts) (group_of t ps) ≡ ps
group_parts t [] = refl
group_parts t (p ∷ ps) = append-nil (p ∷ ps)

-- the data after a commit of the parts from `offset` on
pub tail_data : (tells : Bool) (old new : StoreView) (t offset : ℕ) (ps : List Part) → (IsTrue tells → new.state.bytes ≡ applied (drop offset (listed (old.state.logs t))) old.state.bytes) → (IsTrue tells → ps ≡ listed (old.state.logs t))
    → IsTrue tells → new.state.bytes ≡ applied (flat_map (λ (g : Group). g.parts) (group_of t (drop offset ps))) old.state.bytes
tail_data tells old new t offset ps committed are told =
    committed told
    ∙ ap (λ (qs : List Part). applied (drop offset qs) old.state.bytes) (sym (are told))
    ∙ ap (λ (qs : List Part). applied qs old.state.bytes) (sym (group_parts t (drop offset ps)))

-- the same of a group of numbers
pub groups_data : (logs : List Log) (state : Logs Part) (ts : List ℕ) → All (λ t. (log_at logs t).parts ≡ listed (state t)) ts → flat_map (λ (g : Group). g.parts) (groups_of logs ts) ≡ group_log state ts
groups_data logs state [] are = refl
groups_data logs state (t ∷ ts) are =
    flat_map-append (λ (g : Group). g.parts) (group_of t (log_at logs t).parts) (groups_of logs ts)
    ∙ (λ i. (group_parts t (log_at logs t).parts ∙ All-head (λ u. (log_at logs u).parts ≡ listed (state u)) t ts are) i ++ groups_data logs state ts (All-tail (λ u. (log_at logs u).parts ≡ listed (state u)) t ts are) i)

-- Copies of what the numbers of a store have logged, as its commands change it.
use Rattle.std.proofs.Common.{◌≡◌, ◌≢◌, ℕ, ◌+◌, ◌*◌, ◌<◌, ◌≤◌, Bool, true, false, cond, nat_eq, List, [], ◌∷◌, ◌++◌, length, get_or, set, take, drop, refl, sym, ◌∙◌, ap, subst, arith}
use Rattle.std.specs.Prelude.{IsTrue, Option, Some, None}
use Rattle.std.proofs.lemmas.Bool.{eq-eqb, eqb-true}
use Rattle.std.proofs.lemmas.List.{length-set, get_or-set_same, get_or-set_other, take-append-drop, length-append}
use Rattle.array_shape.specs.declared.shape.Shape.{Shape}
use Rattle.array_shape.specs.Places.{IsShape}
use Rattle.array_shape.specs.Logged.{Part, ranges_of, AllPlaced}
use Rattle.eaw_face.specs.State.{State, Logs, listed, with_log, edited, range_at, count_on}
use Rattle.eaw_face.specs.StoreView.{StoreView, ArePlaced}
use Rattle.eaw_face.specs.Command.{Command, after}
use Rattle.eaw_face.specs.Causes.{fit}
use Rattle.eaw_face.specs.Does.{Becomes}
use Rattle.eaw_face.proofs.Others.{with_log_other}
use Rattle.mirror.specs.Log.{Log}
use Rattle.mirror.specs.Log.{log_at}
use Rattle.mirror.proofs.Parts.{ranges_of-append, ranges_of-take, ranges_of-edited, length-ranges_of}
use Rattle.mirror.proofs.Parts.{log_is}
use Rattle.mirror.specs.Sending.{IsSendable}
use Rattle.mirror.specs.Mirroring.{IsCopy, AreLogs, AreCopies}
use Rattle.mirror.proofs.Holding.{count_append, fit_most}

pub with_log_here : {A : Type 0} (logs : Logs A) (t : ℕ) (log : Option (List A)) → with_log logs t log t ≡ log
with_log_here logs t log = ap (λ (b : Bool). cond b log (logs t)) (eq-eqb t t refl)

-- an empty log, which no list has
abbrev no_log : Log
no_log = record { is_live = false; parts = []; room = 0 }

all_placed : (shape : Shape) (ps : List Part) → ArePlaced shape (ranges_of ps) → AllPlaced shape ps
all_placed shape [] placed = tt
all_placed shape (p ∷ ps) placed = (placed.0, all_placed shape ps placed.1)

-- what a number has logged can be sent
pub copy_sendable : (tells : Bool) (store : StoreView) (t : ℕ) (ps : List Part) → IsCopy tells store t ps → ArePlaced store.shape (listed (store.ranges t)) → IsSendable store.shape ps
copy_sendable tells store t ps copy placed = record { placed = all_placed store.shape ps (subst (ArePlaced store.shape) (sym copy.ranges) placed); room = copy.room }

-- a log of the list is another
module _ (logs : List Log) (t : ℕ) (log : Log) (lt : t < length logs) where
  pub log_here : log_at (set logs t log) t ≡ log
  log_here = get_or-set_same logs t log no_log lt

  pub log_there : (u : ℕ) → u ≢ t → log_at (set logs t log) u ≡ log_at logs u
  log_there u other = get_or-set_other logs t u log no_log other

  pub logs_set : (shape : Shape) → AreLogs shape logs → log.room ≡ (log_at logs t).room → AreLogs shape (set logs t log)
  logs_set shape are room = record { numbers = length-set logs t log ∙ are.numbers; room = λ u small. go u small (nat_eq u t) refl }
    where
      go : (u : ℕ) → u < shape.numbers → (b : Bool) → nat_eq u t ≡ b → (log_at (set logs t log) u).room ≡ shape.loggers * shape.entries
      go u small true same =
          let is = eqb-true u t same in
          ap (λ (v : ℕ). (log_at (set logs t log) v).room) is ∙ ap (λ (l : Log). l.room) log_here ∙ room ∙ ap (λ (v : ℕ). (log_at logs v).room) (sym is) ∙ are.room u small
      go u small false other = ap (λ (l : Log). l.room) (log_there u (λ is. absurd (cc (sym other ∙ eq-eqb u t is)))) ∙ are.room u small

module _ (tells : Bool) (old new : StoreView) (t : ℕ) where
  -- what the other numbers have logged is as it was
  pub record KeepsOthers : Type 0 where
    pub shape : new.shape ≡ old.shape
    pub alive : old.is_dead ≡ false
    pub ranges : (u : ℕ) → (u ≡ t → ⊥) → new.ranges u ≡ old.ranges u
    pub logs : IsTrue tells → (u : ℕ) → (u ≡ t → ⊥) → new.state.logs u ≡ old.state.logs u

  -- what number t has logged is now this
  pub record HasLogged (ps : List Part) : Type 0 where
    pub ranges : listed (new.ranges t) ≡ ranges_of ps
    pub logs : IsTrue tells → listed (new.state.logs t) ≡ ps
    pub room : fit old.shape [] (ranges_of ps) None

  pub copy_now : (shape : new.shape ≡ old.shape) (ps : List Part) → HasLogged ps → IsCopy tells new t ps
  copy_now shape ps has = record { ranges = sym has.ranges; parts_are = λ told. sym (has.logs told); room = subst (λ (s : Shape). fit s [] (ranges_of ps) None) (sym shape) has.room }

  pub copies_set : (logs : List Log) (log : Log) → AreCopies tells old logs → t < old.shape.numbers → KeepsOthers → log.room ≡ (log_at logs t).room → HasLogged log.parts → AreCopies tells new (set logs t log)
  copies_set logs log copies small keeps room has =
      let lt : t < length logs = omega (arith, copies.are.numbers, small) in
      record {
        are = subst (λ (s : Shape). AreLogs s (set logs t log)) (sym keeps.shape) (logs_set logs t log lt old.shape copies.are room);
        copies = λ alive u within. go lt u (subst (λ (s : Shape). u < s.numbers) keeps.shape within) (nat_eq u t) refl;
      }
    where
      go : t < length logs → (u : ℕ) → u < old.shape.numbers → (b : Bool) → nat_eq u t ≡ b → IsCopy tells new u (log_at (set logs t log) u).parts
      go lt u within true same =
          subst (λ (v : ℕ). IsCopy tells new v (log_at (set logs t log) v).parts) (sym (eqb-true u t same))
          (subst (λ (l : Log). IsCopy tells new t l.parts) (sym (log_here logs t log lt)) (copy_now keeps.shape log.parts has))
      go lt u within false other =
          let ne : u ≡ t → ⊥ = λ is. absurd (cc (sym other ∙ eq-eqb u t is)) in
          let copy = copies.copies keeps.alive u within in
          subst (λ (l : Log). IsCopy tells new u l.parts) (sym (log_there logs t log lt u ne)) (record {
            ranges = copy.ranges ∙ ap listed (sym (keeps.ranges u ne));
            parts_are = λ told. copy.parts_are told ∙ ap listed (sym (keeps.logs told u ne));
            room = subst (λ (s : Shape). fit s [] (ranges_of (log_at logs u).parts) None) (sym keeps.shape) copy.room;
          })

-- what a command that is done makes of the log of the number that it names
module _ (tells : Bool) (old new : StoreView) (t : ℕ) (ps : List Part) (copy : IsCopy tells old t ps) where
  no_room : fit old.shape [] [] None
  no_room g lt = omega arith

  -- it is freed
  pub freed : new.ranges ≡ with_log old.ranges t None → (IsTrue tells → new.state.logs ≡ with_log old.state.logs t None) → HasLogged tells old new t []
  freed ranges logs = record {
    ranges = ap (λ (r : Logs (ℕ × ℕ)). listed (r t)) ranges ∙ ap listed (with_log_here old.ranges t None);
    logs = λ told. ap (λ (l : Logs Part). listed (l t)) (logs told) ∙ ap listed (with_log_here old.state.logs t None);
    room = no_room;
  }

  -- its front stays
  pub cut : (n : ℕ) → new.ranges ≡ with_log old.ranges t (Some (take n (listed (old.ranges t)))) → (IsTrue tells → new.state.logs ≡ with_log old.state.logs t (Some (take n (listed (old.state.logs t))))) → HasLogged tells old new t (take n ps)
  cut n ranges logs = record {
    ranges =
        ap (λ (r : Logs (ℕ × ℕ)). listed (r t)) ranges
        ∙ ap listed (with_log_here old.ranges t (Some (take n (listed (old.ranges t)))))
        ∙ ap (take n) (sym copy.ranges)
        ∙ sym (ranges_of-take n ps);
    logs = λ told.
        ap (λ (l : Logs Part). listed (l t)) (logs told)
        ∙ ap listed (with_log_here old.state.logs t (Some (take n (listed (old.state.logs t)))))
        ∙ ap (take n) (sym (copy.parts_are told));
    room = room_take n ps copy.room;
  }
    where
      room_take : (n : ℕ) (qs : List Part) → fit old.shape [] (ranges_of qs) None → fit old.shape [] (ranges_of (take n qs)) None
      room_take n qs fits g lt =
          let whole = fits g lt in
          let split : count_on old.shape g (ranges_of qs) ≡ count_on old.shape g (ranges_of (take n qs)) + count_on old.shape g (ranges_of (drop n qs)) =
          ap (λ (rs : List Part). count_on old.shape g (ranges_of rs)) (sym (take-append-drop n qs))
          ∙ ap (count_on old.shape g) (ranges_of-append (take n qs) (drop n qs))
          ∙ count_append old.shape g (ranges_of (take n qs)) (ranges_of (drop n qs)) in
          omega (arith, whole, split)

  pub room_more : (more : List Part) → fit old.shape (listed (old.ranges t)) (ranges_of more) None → fit old.shape [] (ranges_of (ps ++ more)) None
  room_more more fits g lt =
      let room = fits g lt in
      let split : count_on old.shape g (ranges_of (ps ++ more)) ≡ count_on old.shape g (listed (old.ranges t)) + count_on old.shape g (ranges_of more) =
      ap (count_on old.shape g) (ranges_of-append ps more)
      ∙ count_append old.shape g (ranges_of ps) (ranges_of more)
      ∙ ap (λ (rs : List (ℕ × ℕ)). count_on old.shape g rs + count_on old.shape g (ranges_of more)) copy.ranges in
      omega (arith, room, split)

  -- parts are logged behind it
  pub grown : (more : List Part) → fit old.shape (listed (old.ranges t)) (ranges_of more) None → new.ranges ≡ with_log old.ranges t (Some (listed (old.ranges t) ++ ranges_of more))
      → (IsTrue tells → new.state.logs ≡ with_log old.state.logs t (Some (listed (old.state.logs t) ++ more))) → HasLogged tells old new t (ps ++ more)
  grown more fits ranges logs = record {
    ranges =
        ap (λ (r : Logs (ℕ × ℕ)). listed (r t)) ranges
        ∙ ap listed (with_log_here old.ranges t (Some (listed (old.ranges t) ++ ranges_of more)))
        ∙ ap (λ (rs : List (ℕ × ℕ)). rs ++ ranges_of more) (sym copy.ranges)
        ∙ sym (ranges_of-append ps more);
    logs = λ told.
        ap (λ (l : Logs Part). listed (l t)) (logs told)
        ∙ ap listed (with_log_here old.state.logs t (Some (listed (old.state.logs t) ++ more)))
        ∙ ap (λ (qs : List Part). qs ++ more) (sym (copy.parts_are told));
    room = room_more more fits;
  }

  -- bytes of a part of it are others
  pub remade : (pos at : ℕ) (bytes : List ℕ) → at + length bytes ≤ (range_at (listed (old.ranges t)) pos).1 → new.ranges ≡ old.ranges
      → (IsTrue tells → new.state.logs ≡ with_log old.state.logs t (Some (edited pos at bytes (listed (old.state.logs t))))) → HasLogged tells old new t (edited pos at bytes ps)
  remade pos at bytes within ranges logs =
      let same = ranges_of-edited ps pos at bytes (subst (λ (rs : List (ℕ × ℕ)). at + length bytes ≤ (range_at rs pos).1) (sym copy.ranges) within) in
      record {
        ranges = ap (λ (r : Logs (ℕ × ℕ)). listed (r t)) ranges ∙ sym copy.ranges ∙ sym same;
        logs = λ told.
            ap (λ (l : Logs Part). listed (l t)) (logs told)
            ∙ ap listed (with_log_here old.state.logs t (Some (edited pos at bytes (listed (old.state.logs t)))))
            ∙ ap (edited pos at bytes) (sym (copy.parts_are told));
        room = subst (λ (rs : List (ℕ × ℕ)). fit old.shape [] rs None) (sym same) copy.room;
      }

-- what the code reads and writes: the log at n, which is that of number t
module _ (tells : Bool) (old : StoreView) (logs : List Log) (copies : AreCopies tells old logs) (t : ℕ) (small : t < old.shape.numbers) (alive : old.is_dead ≡ false) (n : ℕ) (n_is : n ≡ t) (log : Log) (read : log ≡ get_or logs n log) where
  pub lt : t < length logs
  lt = omega (arith, copies.are.numbers, small)

  pub log_read_is : log ≡ log_at logs t
  log_read_is = log_is logs t n log (omega (arith, copies.are.numbers, small)) n_is read

  pub copy_of : IsCopy tells old t log.parts
  copy_of = subst (λ (l : Log). IsCopy tells old t l.parts) (sym log_read_is) (copies.copies alive t small)

  pub room_of : log.room ≡ old.shape.loggers * old.shape.entries
  room_of = ap (λ (l : Log). l.room) log_read_is ∙ copies.are.room t small

  pub sendable_at : (shape : Shape) → shape ≡ old.shape → ArePlaced old.shape (listed (old.ranges t)) → IsSendable shape log.parts
  sendable_at shape same placed = subst (λ (s : Shape). IsSendable s log.parts) (sym same) (copy_sendable tells old t log.parts copy_of placed)

  pub length_of : length log.parts ≡ length (listed (old.ranges t))
  length_of = sym (length-ranges_of log.parts) ∙ ap (λ (rs : List (ℕ × ℕ)). length rs) copy_of.ranges

  -- more parts fit into its memory
  pub memory_for : IsShape old.shape → (more : List Part) → fit old.shape (listed (old.ranges t)) (ranges_of more) None → length log.parts + length more ≤ log.room
  memory_for in_range more fits =
      let most = fit_most old.shape in_range.some_loggers (ranges_of (log.parts ++ more)) (room_more tells old old t log.parts copy_of more fits) in
      omega (arith, most, room_of, length-ranges_of (log.parts ++ more), length-append log.parts more)

  module _ (new : StoreView) (log' : Log) (room : log'.room ≡ log.room) (shape : new.shape ≡ old.shape) (ranges : (u : ℕ) → (u ≡ t → ⊥) → new.ranges u ≡ old.ranges u)
      (others : IsTrue tells → (u : ℕ) → (u ≡ t → ⊥) → new.state.logs u ≡ old.state.logs u) where
    pub copies_now : HasLogged tells old new t log'.parts → AreCopies tells new (set logs n log')
    copies_now has =
        subst (λ (k : ℕ). AreCopies tells new (set logs k log')) (sym n_is)
        (copies_set tells old new t logs log' copies small (record { shape = shape; alive = alive; ranges = ranges; logs = others }) (room ∙ ap (λ (l : Log). l.room) log_read_is) has)

-- the logs that the other numbers have after a command that changes that of number t
pub others_kept : (tells : Bool) (old new : StoreView) (t : ℕ) (log : Option (List Part)) → (IsTrue tells → new.state.logs ≡ with_log old.state.logs t log) → IsTrue tells → (u : ℕ) → (u ≡ t → ⊥) → new.state.logs u ≡ old.state.logs u
others_kept tells old new t log is told u ne = ap (λ (ls : Logs Part). ls u) (is told) ∙ with_log_other old.state.logs t log u ne

pub logs_after : {tells : Bool} {command : Command} {old new : StoreView} → Becomes tells command old new → IsTrue tells → new.state.logs ≡ (after command old.state).logs
logs_after done told = ap (λ (s : State). s.logs) (done.state told)

pub bytes_after : {tells : Bool} {command : Command} {old new : StoreView} → Becomes tells command old new → IsTrue tells → new.state.bytes ≡ (after command old.state).bytes
bytes_after done told = ap (λ (s : State). s.bytes) (done.state told)

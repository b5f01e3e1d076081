-- A frame that is written into a store, part by part.
use Rattle.std.proofs.Common.{◌≡◌, ℕ, ◌+◌, ◌<◌, ◌≤◌, Bool, true, false, cond, nat_eq, List, [], ◌∷◌, ◌++◌, length, take, drop, Result, Ok, Err, refl, sym, ◌∙◌, ap, subst, arith, append_assoc, ⊎_elim}
use Rattle.std.specs.Prelude.{IsTrue, All, flat_map, Option, Some, None}
use Rattle.std.proofs.lemmas.Bool.{eq-eqb, false≢true}
use Rattle.std.proofs.lemmas.List.{append-nil, length-append, take_at, drop_at}
use Rattle.std.proofs.lemmas.List.Elements.{All-head, All-tail}
use Rattle.std.proofs.lemmas.List.Concat.{flat_map-append}
use Rattle.mars_base.proofs.Going.{stays, weaker, then}
use Rattle.byteorder.specs.Endian.{little_number, little_bytes}
use Rattle.byteorder.specs.Numbers.{little_number-reads_back, length-bytes_low_first}
use Rattle.array_shape.specs.declared.shape.Shape.{Shape}
use Rattle.array_shape.specs.Places.{data_len}
use Rattle.array_shape.specs.Parts.{parts_of_write}
use Rattle.array_shape.specs.Logged.{Part, ranges_of}
use Rattle.array_shape.proofs.WriteParts.{one_write_part}
use Rattle.eaw_face.specs.State.{State, Logs, listed, with_log, count_on}
use Rattle.eaw_face.specs.StoreView.{StoreView, LeavesOnly}
use Rattle.eaw_face.specs.Command.{log_write}
use Rattle.eaw_face.specs.Causes.{Cause, fit}
use Rattle.eaw_face.specs.Does.{IsEither, Does}
use Rattle.eaw_face.specs.declared.fault.EawFault.{EawFault}
use Rattle.eaw_face.specs.declared.fault.EawFault.TheVariants.{UnknownTid, LogFull, Media, Dead}
use Rattle.eaw_face.proofs.Rooms.{first_unfit}
use Rattle.eaw_face.specs.Frame.{part_bytes, IsPart, IsInside}
use Rattle.mirror.specs.Applying.{HasParts, Wrote, WroteParts, logged_more, IsNewFault}
use Rattle.mirror.proofs.Holding.{count_append}

-- bytes that begin with a part
pub record NextPart (shape : Shape) (part : Part) (more rest : List ℕ) : Type 0 where
  pub is : IsPart part
  pub inside : IsInside shape part
  pub said : rest ≡ part_bytes part ++ more

module _ (shape : Shape) (part : Part) (more rest : List ℕ) (next : NextPart shape part more rest) where
  abbrev head_bytes : List ℕ
  head_bytes = little_bytes 8 part.0

  abbrev len_bytes : List ℕ
  len_bytes = little_bytes 2 (length part.1)

  spread : rest ≡ head_bytes ++ (len_bytes ++ (part.1 ++ more))
  spread = next.said ∙ append_assoc (head_bytes ++ len_bytes) part.1 more ∙ append_assoc head_bytes len_bytes (part.1 ++ more)

  pub addr_said : little_number 8 rest ≡ part.0
  addr_said = ap (λ (l : List ℕ). little_number 8 l) spread ∙ little_number-reads_back 8 part.0 (len_bytes ++ (part.1 ++ more)) next.is.0

  behind_addr : drop 8 rest ≡ len_bytes ++ (part.1 ++ more)
  behind_addr = ap (λ (l : List ℕ). drop 8 l) spread ∙ drop_at head_bytes (len_bytes ++ (part.1 ++ more)) 8 (length-bytes_low_first 0 8 part.0)

  pub len_said : little_number 2 (drop 8 rest) ≡ length part.1
  len_said = ap (λ (l : List ℕ). little_number 2 l) behind_addr ∙ little_number-reads_back 2 (length part.1) (part.1 ++ more) (omega (arith, next.is.2))

  heads : length (head_bytes ++ len_bytes) ≡ 10
  heads = let one = length-bytes_low_first 0 8 part.0 in let two = length-bytes_low_first 0 2 (length part.1) in omega (arith, one, two, length-append head_bytes len_bytes)

  behind_head : drop 10 rest ≡ part.1 ++ more
  behind_head =
      ap (λ (l : List ℕ). drop 10 l) (next.said ∙ append_assoc (head_bytes ++ len_bytes) part.1 more)
      ∙ drop_at (head_bytes ++ len_bytes) (part.1 ++ more) 10 heads

  pub bytes_said : (n : ℕ) → n ≡ length part.1 → take n (drop 10 rest) ≡ part.1
  bytes_said n is = ap (λ (l : List ℕ). take n l) behind_head ∙ take_at part.1 more n (sym is)

  pub more_said : (n : ℕ) → n ≡ 10 + length part.1 → drop n rest ≡ more
  more_said n is =
      ap (λ (l : List ℕ). drop n l) next.said
      ∙ drop_at (part_bytes part) more n (let e = length-append (head_bytes ++ len_bytes) part.1 in omega (arith, e, heads, is))

  pub long_said : 10 + length part.1 ≤ length rest
  long_said =
      let e = length-append (head_bytes ++ len_bytes) part.1 in
      let all = length-append (part_bytes part) more in
      let same = ap (λ (l : List ℕ). length l) next.said in
      omega (arith, e, heads, all, same)

-- Where a loop stands that logs parts: those that are logged, those that are not yet, and what is behind them.
pub record LogsOn (tells : Bool) (Opens : List ℕ → List ℕ → Type 0) (number count k : ℕ) (bytes rest : List ℕ) (old now : StoreView) : Type 0 where
  pub gone : List Part
  pub left : List Part
  pub tail : List ℕ
  pub so_many : length gone ≡ k
  pub all : length gone + length left ≡ count
  pub are : All IsPart (gone ++ left)
  pub are_left : All IsPart left
  pub inside : All (IsInside old.shape) (gone ++ left)
  pub inside_left : All (IsInside old.shape) left
  pub room : fit old.shape [] (ranges_of (gone ++ left)) None
  pub said : bytes ≡ flat_map part_bytes gone ++ rest
  pub said_left : rest ≡ flat_map part_bytes left ++ tail
  pub wrote : Wrote tells number gone old now
  pub moments : IsTrue tells → LeavesOnly (λ image. Opens image old.state.bytes) old now

-- more in a log, twice
logged_twice : {A : Type 0} (logs : Logs A) (t : ℕ) (xs : List A) (y : A) → with_log (logged_more logs t xs) t (Some (listed (logged_more logs t xs t) ++ y ∷ [])) ≡ logged_more logs t (xs ++ y ∷ [])
logged_twice {A} logs t [] y = refl
logged_twice {A} logs t (x ∷ xs) y = λ i u. go u (nat_eq u t) i
  where
    here : listed (with_log logs t (Some (listed (logs t) ++ x ∷ xs)) t) ≡ listed (logs t) ++ x ∷ xs
    here = ap (λ (b : Bool). listed (cond b (Some (listed (logs t) ++ x ∷ xs)) (logs t))) (eq-eqb t t refl)

    go : (u : ℕ) (b : Bool) → cond b (Some (listed (with_log logs t (Some (listed (logs t) ++ x ∷ xs)) t) ++ y ∷ [])) (cond b (Some (listed (logs t) ++ x ∷ xs)) (logs u)) ≡ cond b (Some (listed (logs t) ++ x ∷ (xs ++ y ∷ []))) (logs u)
    go u true = ap (λ (l : List A). Some (l ++ y ∷ [])) here ∙ ap (λ (l : List A). Some l) (append_assoc (listed (logs t)) (x ∷ xs) (y ∷ []))
    go u false = refl

ranges_append : (ps qs : List Part) → ranges_of (ps ++ qs) ≡ ranges_of ps ++ ranges_of qs
ranges_append [] qs = refl
ranges_append (p ∷ ps) qs = ap (λ (l : List (ℕ × ℕ)). (p.0, length p.1) ∷ l) (ranges_append ps qs)

-- what a free number has logged after some parts
pub listed_more : {A : Type 0} (logs : Logs A) (t : ℕ) (xs : List A) → logs t ≡ None → listed (logged_more logs t xs t) ≡ xs
listed_more logs t [] free = ap listed free
listed_more {A} logs t (x ∷ xs) free =
    ap (λ (b : Bool). listed (cond b (Some (listed (logs t) ++ x ∷ xs)) (logs t))) (eq-eqb t t refl)
    ∙ ap (λ (o : Option (List A)). listed o ++ x ∷ xs) free

module _ (tells : Bool) (Opens : Shape → List ℕ → List ℕ → Type 0) (number count k : ℕ) (bytes rest : List ℕ) (old now : StoreView) where
  -- the loop begins
  pub logs_first : (parts : HasParts old.shape count bytes) → old.is_dead ≡ false → LogsOn tells (Opens old.shape) number count 0 bytes bytes old old
  logs_first parts alive = record {
    gone = [];
    left = parts.list;
    tail = parts.rest;
    so_many = refl;
    all = omega (arith, parts.is_count);
    are = parts.are;
    are_left = parts.are;
    inside = parts.inside;
    inside_left = parts.inside;
    room = parts.room;
    said = refl;
    said_left = parts.is;
    wrote = record { shape = refl; depth = refl; alive = alive; faults = refl; ranges = refl; bytes = λ told. refl; logs = λ told. refl };
    moments = λ told. stays old.moment old.left_since (λ image. Opens old.shape image old.state.bytes);
  }

  -- and ends
  pub logs_last : LogsOn tells (Opens old.shape) number count k bytes rest old now → count ≤ k → WroteParts tells number count bytes rest old now
  logs_last on le = go on.left (omega (arith, on.so_many, on.all, le)) on.are on.inside on.room
    where
      go : (left : List Part) → length left ≡ 0 → All IsPart (on.gone ++ left) → All (IsInside old.shape) (on.gone ++ left) → fit old.shape [] (ranges_of (on.gone ++ left)) None → WroteParts tells number count bytes rest old now
      go [] none are inside room =
          let whole = append-nil on.gone in
          record {
            parts = record {
              list = on.gone;
              is_count = omega (arith, on.so_many, on.all, le);
              are = subst (All IsPart) whole are;
              inside = subst (All (IsInside old.shape)) whole inside;
              room = subst (λ (ps : List Part). fit old.shape [] (ranges_of ps) None) whole room;
              rest = rest;
              is = on.said;
            };
            behind = refl;
            wrote = on.wrote;
          }
      go (p ∷ ps) none are inside room = absurd (omega (arith, none))

  -- the part that comes next
  pub record Next (on : LogsOn tells (Opens old.shape) number count k bytes rest old now) : Type 0 where
    pub part : Part
    pub parts : List Part
    pub are : on.left ≡ part ∷ parts
    pub next : NextPart old.shape part (flat_map part_bytes parts ++ on.tail) rest

  pub next_part : (on : LogsOn tells (Opens old.shape) number count k bytes rest old now) → k < count → Next on
  next_part on lt = go on.left refl on.are_left on.inside_left on.said_left
    where
      go : (left : List Part) → on.left ≡ left → All IsPart left → All (IsInside old.shape) left → rest ≡ flat_map part_bytes left ++ on.tail → Next on
      go [] same are inside said = let none = ap (λ (l : List Part). length l) same in absurd (omega (arith, none, on.so_many, on.all, lt))
      go (p ∷ ps) same are inside said = record {
        part = p;
        parts = ps;
        are = same;
        next = record { is = All-head IsPart p ps are; inside = All-head (IsInside old.shape) p ps inside; said = said ∙ append_assoc (part_bytes p) (flat_map part_bytes ps) on.tail };
      }

  -- the part that comes next is logged, or the medium has failed
  module _ (on : LogsOn tells (Opens old.shape) number count k bytes rest old now) (next : Next on) (free : old.ranges number ≡ None) (here : number < old.shape.numbers) (new : StoreView) where
    abbrev p : Part
    p = next.part

    one : parts_of_write p.0 p.1 ≡ p ∷ []
    one = one_write_part p.0 p.1 next.next.is.1 next.next.is.2

    same_list : on.gone ++ on.left ≡ on.gone ++ (p ∷ next.parts)
    same_list = ap (λ (l : List Part). on.gone ++ l) next.are

    logged_now : listed (now.ranges number) ≡ ranges_of on.gone
    logged_now = ap (λ (logs : Logs (ℕ × ℕ)). listed (logs number)) on.wrote.ranges ∙ listed_more old.ranges number (ranges_of on.gone) free

    fits_too : (g : ℕ) → g < old.shape.loggers → count_on old.shape g (ranges_of on.gone) + count_on old.shape g (ranges_of (p ∷ [])) ≤ old.shape.entries
    fits_too g lt =
        let room = on.room g lt in
        let split : count_on old.shape g (ranges_of (on.gone ++ on.left)) ≡ count_on old.shape g (ranges_of on.gone) + count_on old.shape g (ranges_of (p ∷ next.parts)) =
        ap (λ (l : List Part). count_on old.shape g (ranges_of l)) same_list
        ∙ ap (λ (rs : List (ℕ × ℕ)). count_on old.shape g rs) (ranges_append on.gone (p ∷ next.parts))
        ∙ count_append old.shape g (ranges_of on.gone) (ranges_of (p ∷ next.parts)) in
        let first : count_on old.shape g (ranges_of (p ∷ next.parts)) ≡ count_on old.shape g (ranges_of (p ∷ [])) + count_on old.shape g (ranges_of next.parts) =
        count_append old.shape g (ranges_of (p ∷ [])) (ranges_of next.parts) in
        omega (arith, room, split, first)

    pub next_fault : (fault : EawFault) → (let r : Result ℕ EawFault = Err fault in Cause now (log_write number p.0 p.1) new.faults r) → IsNewFault old new fault
    next_fault Dead cause = absurd (false≢true (sym on.wrote.alive ∙ cause))
    next_fault (UnknownTid u) cause = absurd (cause.1.0 (subst (λ (s : Shape). number < s.numbers) (sym on.wrote.shape) here))
    next_fault (LogFull g h m) cause =
        let full = first_unfit now.shape (listed (now.ranges number)) (ranges_of (parts_of_write p.0 p.1)) g h m cause.2 in
        let logger : g < old.shape.loggers = subst (λ (s : Shape). g < s.loggers) on.wrote.shape full.logger in
        let held : h ≡ count_on old.shape g (ranges_of on.gone) = full.held_is ∙ (λ i. count_on (on.wrote.shape i) g (logged_now i)) in
        let needed : m ≡ count_on old.shape g (ranges_of (p ∷ [])) = full.needed_is ∙ (λ i. count_on (on.wrote.shape i) g (ranges_of (one i))) in
        let entries : now.shape.entries ≡ old.shape.entries = ap (λ (s : Shape). s.entries) on.wrote.shape in
        absurd (omega (arith, full.full, fits_too g logger, held, needed, entries))
    next_fault Media cause = (refl, omega (arith, cause.3, on.wrote.faults))

    module _ (n : ℕ) (does : let r : Result ℕ EawFault = Ok n in Does tells (Opens now.shape) (log_write number p.0 p.1) now new r) where
      ranges_now : new.ranges ≡ logged_more old.ranges number (ranges_of (on.gone ++ p ∷ []))
      ranges_now =
          does.done.ranges
          ∙ (λ i. with_log (on.wrote.ranges i) number (Some (listed (on.wrote.ranges i number) ++ ranges_of (one i))))
          ∙ logged_twice old.ranges number (ranges_of on.gone) (p.0, length p.1)
          ∙ ap (λ (rs : List (ℕ × ℕ)). logged_more old.ranges number rs) (sym (ranges_append on.gone (p ∷ [])))

      logs_now : IsTrue tells → new.state.logs ≡ logged_more old.state.logs number (on.gone ++ p ∷ [])
      logs_now told =
          ap (λ (s : State). s.logs) (does.done.state told)
          ∙ (λ i. with_log (on.wrote.logs told i) number (Some (listed (on.wrote.logs told i number) ++ one i)))
          ∙ logged_twice old.state.logs number on.gone p

      pub next_logged : (rest' : List ℕ) → rest' ≡ flat_map part_bytes next.parts ++ on.tail → LogsOn tells (Opens old.shape) number count (k + 1) bytes rest' old new
      next_logged rest' behind =
          let whole : on.gone ++ on.left ≡ (on.gone ++ p ∷ []) ++ next.parts = same_list ∙ sym (append_assoc on.gone (p ∷ []) next.parts) in
          let more : length (on.gone ++ p ∷ []) ≡ length on.gone + 1 = length-append on.gone (p ∷ []) in
          let fewer = ap (λ (l : List Part). length l) next.are in
          record {
            gone = on.gone ++ p ∷ [];
            left = next.parts;
            tail = on.tail;
            so_many = omega (arith, more, on.so_many);
            all = omega (arith, more, fewer, on.all);
            are = subst (All IsPart) whole on.are;
            are_left = All-tail IsPart p next.parts (subst (All IsPart) next.are on.are_left);
            inside = subst (All (IsInside old.shape)) whole on.inside;
            inside_left = All-tail (IsInside old.shape) p next.parts (subst (All (IsInside old.shape)) next.are on.inside_left);
            room = subst (λ (ps : List Part). fit old.shape [] (ranges_of ps) None) whole on.room;
            said =
                on.said
                ∙ ap (λ (l : List ℕ). flat_map part_bytes on.gone ++ l) (next.next.said ∙ ap (λ (l : List ℕ). part_bytes p ++ l) (sym behind))
                ∙ sym (append_assoc (flat_map part_bytes on.gone) (part_bytes p) rest')
                ∙ ap (λ (l : List ℕ). l ++ rest') (ap (λ (l : List ℕ). flat_map part_bytes on.gone ++ l) (sym (append-nil (part_bytes p))) ∙ sym (flat_map-append part_bytes on.gone (p ∷ [])));
            said_left = behind;
            wrote = record {
              shape = does.shape ∙ on.wrote.shape;
              depth = does.depth ∙ on.wrote.depth;
              alive = does.done.alive;
              faults = does.kept ∙ on.wrote.faults;
              ranges = ranges_now;
              bytes = λ told. ap (λ (s : State). s.bytes) (does.done.state told) ∙ on.wrote.bytes told;
              logs = logs_now;
            };
            moments = λ told. then (on.moments told) (write_moments told (does.time told on.wrote.alive));
          }
        where
          moved : IsTrue tells → (image : List ℕ) → Opens now.shape image now.state.bytes → Opens old.shape image old.state.bytes
          moved told image opens = subst (λ (p : Shape × List ℕ). Opens p.0 image p.1) (λ i. (on.wrote.shape i, on.wrote.bytes told i)) opens

          write_moments : IsTrue tells → LeavesOnly (IsEither (Opens now.shape) now.state.bytes now.state.bytes) now new → LeavesOnly (λ image. Opens old.shape image old.state.bytes) now new
          write_moments told e = weaker (λ image either. ⊎_elim (λ opens. moved told image opens) (λ opens. moved told image opens) either) e

  -- the same for the part as it was read
  module _ (on : LogsOn tells (Opens old.shape) number count k bytes rest old now) (lt : k < count) where
    pub will_read : 10 + little_number 2 (drop 8 rest) ≤ length rest
    will_read =
        let n = next_part on lt in
        let more = flat_map part_bytes n.parts ++ on.tail in
        subst (λ (k : ℕ). 10 + k ≤ length rest) (sym (len_said old.shape n.part more rest n.next)) (long_said old.shape n.part more rest n.next)

    module _ (addr : ℕ) (part behind : List ℕ) (addr_is : addr ≡ little_number 8 rest) (part_is : part ≡ take (little_number 2 (drop 8 rest)) (drop 10 rest))
        (behind_is : behind ≡ drop (10 + little_number 2 (drop 8 rest)) rest) where
      abbrev n : Next on
      n = next_part on lt

      abbrev more : List ℕ
      more = flat_map part_bytes n.parts ++ on.tail

      addr_same : addr ≡ n.part.0
      addr_same = addr_is ∙ addr_said old.shape n.part more rest n.next

      part_same : part ≡ n.part.1
      part_same = part_is ∙ bytes_said old.shape n.part more rest n.next (little_number 2 (drop 8 rest)) (len_said old.shape n.part more rest n.next)

      behind_same : behind ≡ more
      behind_same = behind_is ∙ more_said old.shape n.part more rest n.next (10 + little_number 2 (drop 8 rest)) (ap (λ (m : ℕ). 10 + m) (len_said old.shape n.part more rest n.next))

      pub read_some : 0 < length part
      read_some = subst (λ (l : List ℕ). 0 < length l) (sym part_same) n.next.is.1

      pub read_inside : addr + length part ≤ data_len now.shape
      read_inside = subst (λ (q : ℕ × List ℕ × Shape). q.0 + length q.1 ≤ data_len q.2) (λ i. (sym addr_same i, sym part_same i, sym on.wrote.shape i)) n.next.inside

      module _ (free : old.ranges number ≡ None) (here : number < old.shape.numbers) (new : StoreView) where
        pub read_fault : (fault : EawFault) → (let r : Result ℕ EawFault = Err fault in Does tells (Opens now.shape) (log_write number addr part) now new r) → IsNewFault old new fault
        read_fault fault does = next_fault on n free here new fault (subst (λ (q : ℕ × List ℕ). let r : Result ℕ EawFault = Err fault in Cause now (log_write number q.0 q.1) new.faults r) (λ i. (addr_same i, part_same i)) does.cause)

        pub read_logged : (m : ℕ) → (let r : Result ℕ EawFault = Ok m in Does tells (Opens now.shape) (log_write number addr part) now new r) → LogsOn tells (Opens old.shape) number count (k + 1) bytes behind old new
        read_logged m does = next_logged on n free here new m (subst (λ (q : ℕ × List ℕ). let r : Result ℕ EawFault = Ok m in Does tells (Opens now.shape) (log_write number q.0 q.1) now new r) (λ i. (addr_same i, part_same i)) does) behind behind_same

        pub read_moments : (r : Result ℕ EawFault) → Does tells (Opens now.shape) (log_write number addr part) now new r → IsTrue tells → LeavesOnly (λ image. Opens old.shape image old.state.bytes) old new
        read_moments r does told = then (on.moments told)
            (weaker (λ image either. ⊎_elim (λ opens. moved told image opens) (λ opens. moved told image opens) either) (does.time told on.wrote.alive))
          where
            moved : IsTrue tells → (image : List ℕ) → Opens now.shape image now.state.bytes → Opens old.shape image old.state.bytes
            moved told image opens = subst (λ (p : Shape × List ℕ). Opens p.0 image p.1) (λ i. (on.wrote.shape i, on.wrote.bytes told i)) opens

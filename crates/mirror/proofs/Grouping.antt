-- A frame that is written into a store, number by number.
use Rattle.std.proofs.Common.{◌≡◌, ◌≢◌, ℕ, zero, suc, ◌+◌, ◌-◌, ◌<◌, ◌≤◌, inl, inr, ⊎_elim, Bool, true, false, cond, ◌||◌, nat_eq, List, [], ◌∷◌, ◌++◌, length, drop, Result, Ok, Err, refl, sym, ◌∙◌, ap, subst, arith, append_assoc, slice_index}
use Rattle.std.specs.Prelude.{IsTrue, IsSome, OnOk, IfErr, All, flat_map, Option, Some, None}
use Rattle.std.specs.Option.{option_map}
use Rattle.std.proofs.lemmas.Bool.{eq-eqb, false≢true}
use Rattle.std.proofs.lemmas.List.{append-nil, length-append, drop_at}
use Rattle.std.proofs.lemmas.List.Elements.{All-nil, All-head, All-tail, All-push, All-weaker}
use Rattle.std.proofs.lemmas.List.Concat.{flat_map-append}
use Rattle.mars_base.proofs.Going.{stays, weaker, then}
use Rattle.byteorder.specs.Endian.{little_number, little_bytes}
use Rattle.byteorder.specs.Numbers.{little_number-reads_back, length-bytes_low_first}
use Rattle.array_shape.specs.declared.shape.Shape.{Shape}
use Rattle.array_shape.specs.Logged.{Part, applied, ranges_of}
use Rattle.array_shape.specs.NumberSet.{has, numbers_from, numbers_in}
use Rattle.array_shape.proofs.Sets.{from_here, from_next, from_past, from_end}
use Rattle.eaw_face.specs.State.{State, Logs, listed, group_log, with_each, is_one_of}
use Rattle.eaw_face.specs.StoreView.{StoreView, IsLive, LeavesOnly}
use Rattle.eaw_face.specs.Command.{commit_group, after}
use Rattle.eaw_face.specs.Causes.{Cause, known}
use Rattle.eaw_face.specs.Does.{Becomes, Does}
use Rattle.eaw_face.proofs.Groups.{known_there, known_whole}
use Rattle.eaw_face.proofs.Others.{with_log_other}
use Rattle.eaw_face.specs.declared.fault.EawFault.{EawFault}
use Rattle.eaw_face.specs.declared.fault.EawFault.TheVariants.{UnknownTid, LogFull, Media, Dead}
use Rattle.eaw_face.specs.Frame.{Group, mark, part_bytes, group_bytes, written_by, IsPart, IsGroup, Rise, IsGroupIn, AreFrame}
use Rattle.mirror.specs.Applying.{HasParts, Wrote, WroteParts, logged_more, IsNewFault, IsFree, Applied, OpensEither}
use Rattle.mirror.proofs.Logging.{listed_more}
use Rattle.mirror.proofs.Cuts.{part_cut, list_cut}

-- a number above those of a set is its last
module _ (bits new n : ℕ) (small : n < 64) (above : (u : ℕ) → n ≤ u → has bits u ≡ false) (here : has new n ≡ true) (others : (u : ℕ) → u ≢ n → has new u ≡ has bits u) where
  none_above : numbers_from new (n + 1) (64 - (n + 1)) ≡ []
  none_above =
      from_past new (n + 1) (64 - (n + 1)) (omega arith) (λ u past below. others u (λ same. omega (arith, same, past)) ∙ above u (omega arith))
      ∙ ap (λ (s : ℕ). numbers_from new s (64 - s)) (let same : n + 1 + (64 - (n + 1)) ≡ 64 = omega arith in same)
      ∙ from_end new

  none_there : numbers_from bits n (64 - n) ≡ []
  none_there =
      from_past bits n (64 - n) (omega arith) (λ u past below. above u past)
      ∙ ap (λ (s : ℕ). numbers_from bits s (64 - s)) (let same : n + (64 - n) ≡ 64 = omega arith in same)
      ∙ from_end bits

  grows : (k t : ℕ) → t + k ≡ n → numbers_from new t (64 - t) ≡ numbers_from bits t (64 - t) ++ n ∷ []
  grows zero t is =
      let same : t ≡ n = omega arith in
      ap (λ (s : ℕ). numbers_from new s (64 - s)) same
      ∙ from_here new n small here
      ∙ ap (λ (l : List ℕ). n ∷ l) none_above
      ∙ ap (λ (l : List ℕ). l ++ n ∷ []) (sym none_there)
      ∙ ap (λ (s : ℕ). numbers_from bits s (64 - s) ++ n ∷ []) (sym same)
  grows (suc k) t is = go (has bits t) refl (grows k (t + 1) (omega arith))
    where
      same : has new t ≡ has bits t
      same = others t (λ no. omega (arith, no, is))

      lt : t < 64
      lt = omega (arith, is, small)

      go : (b : Bool) → has bits t ≡ b → numbers_from new (t + 1) (64 - (t + 1)) ≡ numbers_from bits (t + 1) (64 - (t + 1)) ++ n ∷ [] → numbers_from new t (64 - t) ≡ numbers_from bits t (64 - t) ++ n ∷ []
      go true so later =
          from_here new t lt (same ∙ so) ∙ ap (λ (l : List ℕ). t ∷ l) later ∙ ap (λ (l : List ℕ). l ++ n ∷ []) (sym (from_here bits t lt so))
      go false so later =
          from_next new t lt (same ∙ so) ∙ later ∙ ap (λ (l : List ℕ). l ++ n ∷ []) (sym (from_next bits t lt so))

  pub last_in : numbers_in new ≡ numbers_in bits ++ n ∷ []
  last_in = grows n 0 (omega arith)

-- the numbers of groups
abbrev pub numbers : List Group → List ℕ
numbers [] = []
numbers (g ∷ gs) = g.number ∷ numbers gs

numbers_more : (gs : List Group) (g : Group) → numbers (gs ++ g ∷ []) ≡ numbers gs ++ g.number ∷ []
numbers_more [] g = refl
numbers_more (h ∷ gs) g = ap (λ (l : List ℕ). h.number ∷ l) (numbers_more gs g)

one_of_more : (ts : List ℕ) (n u : ℕ) → is_one_of (ts ++ n ∷ []) u ≡ false → (is_one_of ts u ≡ false) × (u ≢ n)
one_of_more [] n u none = (refl, λ same. absurd (false≢true (sym none ∙ ap (λ (b : Bool). b || false) (eq-eqb u n same))))
one_of_more (t ∷ ts) n u none = go (nat_eq u t) none (one_of_more ts n u)
  where
    go : (b : Bool) → (b || is_one_of (ts ++ n ∷ []) u) ≡ false → (is_one_of (ts ++ n ∷ []) u ≡ false → (is_one_of ts u ≡ false) × (u ≢ n)) → ((b || is_one_of ts u) ≡ false) × (u ≢ n)
    go true none later = absurd (false≢true (sym none))
    go false none later = later none

-- one more live number behind others
known_more : (store : StoreView) (ts : List ℕ) (n : ℕ) → known store (commit_group ts) None → IsLive store n → known store (commit_group (ts ++ n ∷ [])) None
known_more store [] n all live = (live, tt)
known_more store (t ∷ ts) n all live = (all.0, known_more store ts n all.1 live)

logged_other : {A : Type 0} (logs : Logs A) (t : ℕ) (xs : List A) (u : ℕ) → u ≢ t → logged_more logs t xs u ≡ logs u
logged_other logs t [] u other = refl
logged_other logs t (x ∷ xs) u other = with_log_other logs t _ u other

is_live_now : {A : Type 0} (logs : Logs A) (t : ℕ) (xs : List A) → 0 < length xs → IsSome (logged_more logs t xs t)
is_live_now logs t [] some = absurd (omega arith)
is_live_now {A} logs t (x ∷ xs) some = subst (λ (b : Bool). IsSome (cond b (Some (listed (logs t) ++ x ∷ xs)) (logs t))) (sym (eq-eqb t t refl)) refl

still_live : {A : Type 0} (logs : Logs A) (t : ℕ) (xs : List A) (u : ℕ) → 0 < length xs → IsSome (logs u) → IsSome (logged_more logs t xs u)
still_live logs t [] u some live = live
still_live {A} logs t (x ∷ xs) u some live = go (nat_eq u t)
  where
    go : (b : Bool) → IsSome (cond b (Some (listed (logs t) ++ x ∷ xs)) (logs u))
    go true = refl
    go false = live

-- numbers other than n have logged what they had
group_same : {A : Type 0} (logs now : Logs A) (n : ℕ) → ((u : ℕ) → u ≢ n → now u ≡ logs u) → (gs : List Group) → All (λ g. g.number < n) gs → group_log now (numbers gs) ≡ group_log logs (numbers gs)
group_same logs now n others [] below = refl
group_same logs now n others (g ∷ gs) below =
    let here = others g.number (λ same. omega (arith, same, All-head (λ h. h.number < n) g gs below)) in
    let rest = group_same logs now n others gs (All-tail (λ h. h.number < n) g gs below) in
    λ i. listed (here i) ++ rest i

group_more : {A : Type 0} (logs : Logs A) (ts : List ℕ) (n : ℕ) → group_log logs (ts ++ n ∷ []) ≡ group_log logs ts ++ listed (logs n)
group_more {A} logs ts n = flat_map-append (λ t. listed (logs t)) ts (n ∷ []) ∙ ap (λ (l : List A). group_log logs ts ++ l) (append-nil (listed (logs n)))

-- Where a loop stands that writes the groups of a frame: those that are logged, and those that are not yet.
pub record GroupsOn (tells : Bool) (Opens : Shape → List ℕ → List ℕ → Type 0) (k : ℕ) (frame rest : List ℕ) (bits : ℕ) (old now : StoreView) : Type 0 where
  pub whole : AreFrame old.shape frame
  pub gone : List Group
  pub left : List Group
  pub so_many : length gone ≡ k
  pub all : whole.frame.groups ≡ gone ++ left
  pub are : All IsGroup left
  pub good : All (IsGroupIn old.shape) left
  pub low : ℕ
  pub rise : Rise low left
  pub gone_low : All (λ g. g.number < low) gone
  pub said : rest ≡ flat_map group_bytes left
  pub members : numbers_in bits ≡ numbers gone
  pub above : (u : ℕ) → low ≤ u → has bits u ≡ false
  pub shape : now.shape ≡ old.shape
  pub depth : now.depth ≡ old.depth
  pub alive : now.is_dead ≡ false
  pub faults : now.faults ≡ old.faults
  pub live : known now (commit_group (numbers gone)) None
  pub free : (u : ℕ) → low ≤ u → now.ranges u ≡ None
  pub others : (u : ℕ) → is_one_of (numbers gone) u ≡ false → now.ranges u ≡ None
  pub unlogged : IsTrue tells → (u : ℕ) → low ≤ u → now.state.logs u ≡ None
  pub logged : IsTrue tells → group_log now.state.logs (numbers gone) ≡ flat_map (λ (g : Group). g.parts) gone
  pub data_is : IsTrue tells → now.state.bytes ≡ old.state.bytes
  pub moments : IsTrue tells → LeavesOnly (OpensEither Opens frame old) old now

-- nothing is logged where there are no ranges
pub none_logged : (log : Option (List Part)) → None ≡ option_map ranges_of log → log ≡ None
none_logged None is = refl
none_logged (Some l) is = cc

-- what the bytes of a frame say of its groups
module _ (shape : Shape) (frame : List ℕ) (f : AreFrame shape frame) where
  abbrev gs : List ℕ
  gs = flat_map group_bytes f.frame.groups

  abbrev n : List ℕ
  n = little_bytes 2 (length f.frame.groups)

  abbrev s : List ℕ
  s = mark ++ little_bytes 8 f.frame.sequence

  front : length s ≡ 12
  front = let one = length-append mark (little_bytes 8 f.frame.sequence) in let two = length-bytes_low_first 0 8 f.frame.sequence in omega (arith, one, two)

  pub count_said : little_number 2 (drop 12 frame) ≡ length f.frame.groups
  count_said =
      ap (λ (l : List ℕ). little_number 2 (drop 12 l)) (sym f.is ∙ append_assoc s n gs)
      ∙ ap (λ (l : List ℕ). little_number 2 l) (drop_at s (n ++ gs) 12 front)
      ∙ little_number-reads_back 2 (length f.frame.groups) gs f.good.is.2

  pub groups_said : drop 14 frame ≡ gs
  groups_said =
      ap (λ (l : List ℕ). drop 14 l) (sym f.is)
      ∙ drop_at (s ++ n) gs 14 (let one = length-append s n in let two = length-bytes_low_first 0 2 (length f.frame.groups) in omega (arith, one, two, front))

  pub head_long : 14 ≤ length frame
  head_long =
      let one = length-append s n in let two = length-bytes_low_first 0 2 (length f.frame.groups) in
      let all = length-append (s ++ n) gs in
      let same = ap (λ (l : List ℕ). length l) f.is in
      omega (arith, one, two, front, all, same)

-- bytes that begin with a group
pub record NextGroup (shape : Shape) (low : ℕ) (group : Group) (more : List Group) (rest : List ℕ) : Type 0 where
  pub least : low ≤ group.number
  pub rise : Rise (group.number + 1) more
  pub is : IsGroup group
  pub good : IsGroupIn shape group
  pub said : rest ≡ group_bytes group ++ flat_map group_bytes more

module _ (shape : Shape) (low : ℕ) (g : Group) (more : List Group) (rest : List ℕ) (next : NextGroup shape low g more rest) where
  abbrev c : List ℕ
  c = little_bytes 2 (length g.parts)

  abbrev behind : List ℕ
  behind = flat_map part_bytes g.parts ++ flat_map group_bytes more

  spread : rest ≡ g.number ∷ (c ++ behind)
  spread = next.said ∙ ap (λ (l : List ℕ). g.number ∷ l) (append_assoc c (flat_map part_bytes g.parts) (flat_map group_bytes more))

  pub number_said : slice_index rest 0 ≡ g.number
  number_said = ap (λ (l : List ℕ). slice_index l 0) spread

  pub parts_counted : little_number 2 (drop 1 rest) ≡ length g.parts
  parts_counted = ap (λ (l : List ℕ). little_number 2 (drop 1 l)) spread ∙ little_number-reads_back 2 (length g.parts) behind next.is.2

  pub parts_said : drop 3 rest ≡ behind
  parts_said = ap (λ (l : List ℕ). drop 3 l) spread ∙ drop_at (g.number ∷ c) behind 3 (let two = length-bytes_low_first 0 2 (length g.parts) in omega (arith, two))

  pub group_long : 3 ≤ length rest
  group_long =
      let two = length-bytes_low_first 0 2 (length g.parts) in
      let all = length-append c behind in
      let same = ap (λ (l : List ℕ). length l) spread in
      omega (arith, two, all, same)

module _ (tells : Bool) (Opens : Shape → List ℕ → List ℕ → Type 0) (k : ℕ) (frame rest : List ℕ) (bits : ℕ) (old now : StoreView) where
  pub groups_first : AreFrame old.shape frame → old.is_dead ≡ false → IsFree old → (IsTrue tells → (u : ℕ) → old.state.logs u ≡ None) → rest ≡ drop 14 frame → numbers_in bits ≡ [] → ((u : ℕ) → has bits u ≡ false)
      → GroupsOn tells Opens 0 frame rest bits old old
  groups_first f alive free unlogged rest_is none lacks = record {
    whole = f;
    gone = [];
    left = f.frame.groups;
    so_many = refl;
    all = refl;
    are = f.good.is.4;
    good = f.good.groups;
    low = 0;
    rise = f.good.is.3;
    gone_low = All-nil (λ (g : Group). g.number < 0);
    said = rest_is ∙ groups_said old.shape frame f;
    members = none;
    above = λ u le. lacks u;
    shape = refl;
    depth = refl;
    alive = alive;
    faults = refl;
    live = tt;
    free = λ u le. free u;
    others = λ u no. free u;
    unlogged = λ told u le. unlogged told u;
    logged = λ told. refl;
    data_is = λ told. refl;
    moments = λ told. stays old.moment old.left_since (OpensEither Opens frame old);
  }

  module _ (on : GroupsOn tells Opens k frame rest bits old now) where
    -- the group that comes next
    pub record NextOn : Type 0 where
      pub group : Group
      pub more : List Group
      pub are : on.left ≡ group ∷ more
      pub next : NextGroup old.shape on.low group more rest

    pub next_group : k < little_number 2 (drop 12 frame) → NextOn
    next_group lt = go on.left refl on.are on.good on.rise on.said
      where
        go : (left : List Group) → on.left ≡ left → All IsGroup left → All (IsGroupIn old.shape) left → Rise on.low left → rest ≡ flat_map group_bytes left → NextOn
        go [] same are good rise said =
            let all = ap (λ (l : List Group). length l) on.all in
            let split = length-append on.gone on.left in
            let none = ap (λ (l : List Group). length l) same in
            absurd (omega (arith, lt, count_said old.shape frame on.whole, all, split, none, on.so_many))
        go (g ∷ gs) same are good rise said = record {
          group = g;
          more = gs;
          are = same;
          next = record { least = rise.0; rise = rise.1; is = All-head IsGroup g gs are; good = All-head (IsGroupIn old.shape) g gs good; said = said };
        }

    -- the parts of a group are there, and have room
    pub has_parts : (n : NextOn) (number count : ℕ) (behind : List ℕ) → number ≡ slice_index rest 0 → count ≡ little_number 2 (drop 1 rest) → behind ≡ drop 3 rest → HasParts now.shape count behind
    has_parts n number count behind number_is count_is behind_is =
        let g = n.group in
        subst (λ (shape : Shape). HasParts shape count behind) (sym on.shape) (record {
          list = g.parts;
          is_count = sym (count_is ∙ parts_counted old.shape on.low g n.more rest n.next);
          are = n.next.is.3;
          inside = n.next.good.1;
          room = n.next.good.2;
          rest = flat_map group_bytes n.more;
          is = behind_is ∙ parts_said old.shape on.low g n.more rest n.next;
        })

    -- the next group is logged
    module _ (n : NextOn) (number count : ℕ) (behind : List ℕ) (number_is : number ≡ slice_index rest 0) (count_is : count ≡ little_number 2 (drop 1 rest)) (behind_is : behind ≡ drop 3 rest)
        (rest' : List ℕ) (bits' : ℕ) (new : StoreView) (w : WroteParts tells number count behind rest' now new)
        (here : has bits' number ≡ true) (same_bits : (u : ℕ) → u ≢ number → has bits' u ≡ has bits u) (most : old.shape.numbers ≤ 64)
        (moments : IsTrue tells → LeavesOnly (λ image. Opens now.shape image now.state.bytes) now new) where
      abbrev g : Group
      g = n.group

      is_number : number ≡ g.number
      is_number = number_is ∙ number_said old.shape on.low g n.more rest n.next

      same_parts : (w.parts.list ≡ g.parts) × (w.parts.rest ≡ flat_map group_bytes n.more)
      same_parts = list_cut part_bytes IsPart part_cut w.parts.list g.parts w.parts.rest (flat_map group_bytes n.more)
          (w.parts.is_count ∙ count_is ∙ parts_counted old.shape on.low g n.more rest n.next) w.parts.are n.next.is.3
          (sym w.parts.is ∙ behind_is ∙ parts_said old.shape on.low g n.more rest n.next)

      wrote : Wrote tells g.number g.parts now new
      wrote = subst (λ (q : ℕ × List Part). Wrote tells q.0 q.1 now new) (λ i. (is_number i, same_parts.0 i)) w.wrote

      some_ranges : (ps : List Part) → 0 < length ps → 0 < length (ranges_of ps)
      some_ranges [] some = absurd (omega (arith, some))
      some_ranges (p ∷ ps) some = omega arith

      some : 0 < length (ranges_of g.parts)
      some = some_ranges g.parts n.next.is.1

      live_there : (u : ℕ) → IsLive now u → IsLive new u
      live_there u live = record {
        small = subst (λ (s : Shape). u < s.numbers) (sym wrote.shape) live.small;
        live = subst (λ (r : Logs (ℕ × ℕ)). IsSome (r u)) (sym wrote.ranges) (still_live now.ranges g.number (ranges_of g.parts) u some live.live);
      }

      live_here : IsLive new g.number
      live_here = record {
        small = subst (λ (s : Shape). g.number < s.numbers) (sym (wrote.shape ∙ on.shape)) n.next.good.0;
        live = subst (λ (r : Logs (ℕ × ℕ)). IsSome (r g.number)) (sym wrote.ranges) (is_live_now now.ranges g.number (ranges_of g.parts) some);
      }

      other_ranges : (u : ℕ) → u ≢ g.number → new.ranges u ≡ now.ranges u
      other_ranges u other = ap (λ (r : Logs (ℕ × ℕ)). r u) wrote.ranges ∙ logged_other now.ranges g.number (ranges_of g.parts) u other

      other_logs : IsTrue tells → (u : ℕ) → u ≢ g.number → new.state.logs u ≡ now.state.logs u
      other_logs told u other = ap (λ (r : Logs Part). r u) (wrote.logs told) ∙ logged_other now.state.logs g.number g.parts u other

      higher : (u : ℕ) → g.number + 1 ≤ u → u ≢ g.number
      higher u le same = omega (arith, le, same)

      moved : IsTrue tells → (image : List ℕ) → Opens now.shape image now.state.bytes → OpensEither Opens frame old image
      moved told image opens = inl (subst (λ (q : Shape × List ℕ). Opens q.0 image q.1) (λ i. (on.shape i, on.data_is told i)) opens)

      below_now : All (λ (h : Group). h.number < g.number) on.gone
      below_now = All-weaker (λ (h : Group). h.number < on.low) (λ (h : Group). h.number < g.number) (λ h lt. omega (arith, lt, n.next.least)) on.gone on.gone_low

      pub groups_next : GroupsOn tells Opens (k + 1) frame rest' bits' old new
      groups_next =
          let more_numbers = numbers_more on.gone g in
          record {
            whole = on.whole;
            gone = on.gone ++ g ∷ [];
            left = n.more;
            so_many = let m = length-append on.gone (g ∷ []) in omega (arith, m, on.so_many);
            all = on.all ∙ ap (λ (l : List Group). on.gone ++ l) n.are ∙ sym (append_assoc on.gone (g ∷ []) n.more);
            are = All-tail IsGroup g n.more (subst (All IsGroup) n.are on.are);
            good = All-tail (IsGroupIn old.shape) g n.more (subst (All (IsGroupIn old.shape)) n.are on.good);
            low = g.number + 1;
            rise = n.next.rise;
            gone_low = All-push (λ (h : Group). h.number < g.number + 1) on.gone g (All-weaker (λ (h : Group). h.number < g.number) (λ (h : Group). h.number < g.number + 1) (λ h lt. omega (arith, lt)) on.gone below_now) (omega arith);
            said = sym w.behind ∙ same_parts.1;
            members =
                last_in bits bits' g.number (omega (arith, n.next.good.0, most)) (λ u le. on.above u (omega (arith, le, n.next.least)))
                (subst (λ (m : ℕ). has bits' m ≡ true) is_number here) (λ u other. same_bits u (λ same. other (same ∙ is_number)))
                ∙ ap (λ (l : List ℕ). l ++ g.number ∷ []) on.members ∙ sym more_numbers;
            above = λ u le. same_bits u (λ same. omega (arith, le, same, is_number)) ∙ on.above u (omega (arith, le, n.next.least));
            shape = wrote.shape ∙ on.shape;
            depth = wrote.depth ∙ on.depth;
            alive = wrote.alive;
            faults = wrote.faults ∙ on.faults;
            live = subst (λ (ts : List ℕ). known new (commit_group ts) None) (sym more_numbers) (known_more new (numbers on.gone) g.number (known_there now new live_there (numbers on.gone) on.live) live_here);
            free = λ u le. other_ranges u (higher u le) ∙ on.free u (omega (arith, le, n.next.least));
            others = λ u no.
                let apart = one_of_more (numbers on.gone) g.number u (ap (λ (ts : List ℕ). is_one_of ts u) (sym more_numbers) ∙ no) in
                other_ranges u apart.1 ∙ on.others u apart.0;
            unlogged = λ told u le. other_logs told u (higher u le) ∙ on.unlogged told u (omega (arith, le, n.next.least));
            logged = λ told.
                ap (λ (ts : List ℕ). group_log new.state.logs ts) more_numbers
                ∙ group_more new.state.logs (numbers on.gone) g.number
                ∙ (λ i. (group_same now.state.logs new.state.logs g.number (other_logs told) on.gone below_now ∙ on.logged told) i ++ (ap (λ (r : Logs Part). listed (r g.number)) (wrote.logs told) ∙ listed_more now.state.logs g.number g.parts (on.unlogged told g.number n.next.least)) i)
                ∙ ap (λ (l : List Part). flat_map (λ (h : Group). h.parts) on.gone ++ l) (sym (append-nil g.parts))
                ∙ sym (flat_map-append (λ (h : Group). h.parts) on.gone (g ∷ []));
            data_is = λ told. wrote.bytes told ∙ on.data_is told;
            moments = λ told. then (on.moments told) (weaker (moved told) (moments told));
          }

    -- the medium failed as a group was logged
    pub group_fault : (fault : EawFault) (new : StoreView) → IsNewFault now new fault → IsNewFault old new fault
    group_fault fault new is = (is.0, omega (arith, is.1, on.faults))

    pub group_moments : IsTrue tells → (new : StoreView) → LeavesOnly (λ image. Opens now.shape image now.state.bytes) now new → LeavesOnly (OpensEither Opens frame old) old new
    group_moments told new e = then (on.moments told)
        (weaker (λ image opens. inl (subst (λ (q : Shape × List ℕ). Opens q.0 image q.1) (λ i. (on.shape i, on.data_is told i)) opens)) e)

    -- all groups are logged, and committed
    module _ (last : little_number 2 (drop 12 frame) ≤ k) (ts : List ℕ) (ts_are : ts ≡ numbers_in bits) (new : StoreView) (r : Result (Unit {0}) EawFault) (does : Does tells (Opens now.shape) (commit_group ts) now new r) where
      all_gone : on.whole.frame.groups ≡ on.gone
      all_gone = go on.left on.all
        where
          go : (left : List Group) → on.whole.frame.groups ≡ on.gone ++ left → on.whole.frame.groups ≡ on.gone
          go [] all = all ∙ append-nil on.gone
          go (g ∷ gs) all =
              let whole = ap (λ (l : List Group). length l) all in
              let split = length-append on.gone (g ∷ gs) in
              absurd (omega (arith, last, count_said old.shape frame on.whole, whole, split, on.so_many))

      ts_gone : ts ≡ numbers on.gone
      ts_gone = ts_are ∙ on.members

      written : IsTrue tells → (after (commit_group ts) now.state).bytes ≡ applied (written_by on.whole.frame) old.state.bytes
      written told =
          (λ i. applied (group_log now.state.logs (ts_gone i)) (on.data_is told i))
          ∙ ap (λ (ps : List Part). applied ps old.state.bytes) (on.logged told ∙ ap (λ (gs : List Group). flat_map (λ (h : Group). h.parts) gs) (sym all_gone))

      all_live : known now (commit_group ts) None
      all_live = subst (λ (l : List ℕ). known now (commit_group l) None) (sym ts_gone) on.live

      none_left : (u : ℕ) → with_each now.ranges ts None u ≡ None
      none_left u = go (is_one_of ts u) refl
        where
          go : (b : Bool) → is_one_of ts u ≡ b → cond b None (now.ranges u) ≡ None
          go true is = refl
          go false is = on.others u (ap (λ (l : List ℕ). is_one_of l u) (sym ts_gone) ∙ is)

      pub committed : OnOk r (Applied tells frame old new)
      committed = go r does.done does.kept
        where
          go : (r : Result (Unit {0}) EawFault) → OnOk r (Becomes tells (commit_group ts) now new) → OnOk r (new.faults ≡ now.faults) → OnOk r (Applied tells frame old new)
          go (Err fault) done kept = tt
          go (Ok x) done kept = record {
            frame = on.whole;
            shape = does.shape ∙ on.shape;
            depth = does.depth ∙ on.depth;
            alive = done.alive;
            faults = kept ∙ on.faults;
            free = λ u. ap (λ (f : Logs (ℕ × ℕ)). f u) done.ranges ∙ none_left u;
            data_is = λ told. ap (λ (s : State). s.bytes) (done.state told) ∙ written told;
          }

      pub commit_fault : IfErr r (IsNewFault old new)
      commit_fault = go r does.cause
        where
          go : (r : Result (Unit {0}) EawFault) → Cause now (commit_group ts) new.faults r → IfErr r (IsNewFault old new)
          go (Ok x) cause = tt
          go (Err Dead) cause = absurd (false≢true (sym on.alive ∙ cause))
          go (Err (UnknownTid u)) cause = absurd (known_whole now ts u all_live cause.1)
          go (Err (LogFull g h m)) cause = absurd cause.2
          go (Err Media) cause = (refl, omega (arith, cause.3, on.faults))

      pub commit_moments : IsTrue tells → LeavesOnly (OpensEither Opens frame old) old new
      commit_moments told = then (on.moments told) (weaker
          (λ image either. ⊎_elim
          (λ opens. inl (subst (λ (q : Shape × List ℕ). Opens q.0 image q.1) (λ i. (on.shape i, on.data_is told i)) opens))
          (λ opens. inr (on.whole, subst (λ (q : Shape × List ℕ). Opens q.0 image q.1) (λ i. (on.shape i, written told i)) opens))
          either)
          (does.time told on.alive))

-- Counts alone: what every command keeps of them, and that the store is asked only what it may be asked.
use Rattle.std.proofs.Common.{◌≡◌, ℕ, ◌-◌, ◌<◌, ◌≤◌, Bool, true, false, cond, inl, inr, List, [], ◌∷◌, ◌++◌, length, get_or, take, refl, sym, ap, subst, arith}
use Rattle.std.specs.Prelude.{Option, Some, None, is_some, IsSome, IfSome}
use Rattle.std.specs.Option.{option_map, unwrap_or}
use Rattle.std.proofs.lemmas.Bool.{cases_lt}
use Rattle.std.proofs.lemmas.List.{get_or_append_left, get_or_push, get_or-take, length-append, length-take-le}
use Rattle.array_shape.specs.declared.shape.Shape.{Shape}
use Rattle.array_shape.specs.Places.{IsPlaced}
use Rattle.eaw_face.specs.State.{listed}
use Rattle.eaw_face.specs.Command.{Command, commit, abort, nested_top, partial_abort}
use Rattle.eaw_face.proofs.Groups.{with_each_two, passes_in}
use Rattle.page_store.specs.Edit.{edit_pos, with_range}
use Rattle.page_store.specs.Command.{PageCommand, write_as, save, back, top_begin, top_end, end, end_group, atomic_write, read_as, read}
use Rattle.page_store.specs.Outline.{Outline, count_at, floor_in, outline_after}
use Rattle.page_store.specs.Device.{write_of, device}
use Rattle.page_store.specs.Ready.{IsReady}
use Rattle.page_store.specs.Kept.{IsOrderedOf, IsOrdered, IsAllowed}
use Rattle.page_store.proofs.Numbers.{with_two, with_other}
use Rattle.page_store.proofs.Exact.{edit_found}

module _ (counts : List ℕ) (top : Option ℕ) (now : ℕ) (kept : IsOrderedOf counts top now) where
  within : (i : ℕ) → i < length counts → get_or counts i 0 ≤ now
  within i lt = go top kept.mark (kept.before i lt)
    where
      go : (o : Option ℕ) → unwrap_or o 0 ≤ now → get_or counts i 0 ≤ unwrap_or o now → get_or counts i 0 ≤ now
      go None le le' = le'
      go (Some m) le le' = omega arith

  more : (now' : ℕ) → now ≤ now' → IsOrderedOf counts top now'
  more now' le = record { rising = kept.rising; mark = omega (arith, kept.mark); before = λ i lt. go top i (kept.before i lt) }
    where
      go : (o : Option ℕ) (i : ℕ) → get_or counts i 0 ≤ unwrap_or o now → get_or counts i 0 ≤ unwrap_or o now'
      go None i le' = omega arith
      go (Some m) i le' = le'

  new_within : (i : ℕ) → i < length (counts ++ now ∷ []) → get_or (counts ++ now ∷ []) i 0 ≤ now
  new_within i lt = elim (cases_lt i (length counts)) [
    | inl old ↦ omega (arith, within i old, get_or_append_left counts (now ∷ []) 0 i old)
    | inr new ↦ omega (arith, get_or_push counts now 0 i (omega (arith, length-append counts (now ∷ []))))
  ]

  ordered_save : top ≡ None → IsOrderedOf (counts ++ now ∷ []) top now
  ordered_save none = record {
    rising = λ i j le lt. elim (cases_lt j (length counts)) [
      | inl old ↦ omega (arith, kept.rising i j le old, get_or_append_left counts (now ∷ []) 0 i (omega arith), get_or_append_left counts (now ∷ []) 0 j old)
      | inr new ↦ omega (arith, new_within i (omega arith), get_or_push counts now 0 j (omega (arith, length-append counts (now ∷ []))))
    ];
    mark = kept.mark;
    before = λ i lt. subst (λ o. get_or (counts ++ now ∷ []) i 0 ≤ unwrap_or o now) (sym none) (new_within i lt);
  }

  ordered_back : (n : ℕ) → 0 < n → n ≤ length counts → top ≡ None → IsOrderedOf (take n counts) top (count_at counts n)
  ordered_back n some le none = record {
    rising = λ i j ij lt. omega (arith, kept.rising i j ij (omega (arith, long)), get_or-take n counts i 0 (omega (arith, long)), get_or-take n counts j 0 (omega (arith, long)));
    mark = subst (λ o. unwrap_or o 0 ≤ count_at counts n) (sym none) (omega arith);
    before = λ i lt. subst (λ o. get_or (take n counts) i 0 ≤ unwrap_or o (count_at counts n)) (sym none)
        (omega (arith, get_or-take n counts i 0 (omega (arith, long)), kept.rising i (n - 1) (omega (arith, long)) (omega arith)));
  }
    where
      long : length (take n counts) ≡ n
      long = length-take-le n counts le

  ordered_begin : IsOrderedOf counts (Some now) now
  ordered_begin = record { rising = kept.rising; mark = omega arith; before = within }

  ordered_top : (mark : ℕ) → top ≡ Some mark → IsOrderedOf counts None mark
  ordered_top mark is = record { rising = kept.rising; mark = omega arith; before = λ i lt. subst (λ o. get_or counts i 0 ≤ unwrap_or o now) is (kept.before i lt) }

  mark_within : (mark : ℕ) → top ≡ Some mark → mark ≤ now
  mark_within mark is = subst (λ o. unwrap_or o 0 ≤ now) is kept.mark

ordered_none : (top : Option ℕ) → top ≡ None → IsOrderedOf [] top 0
ordered_none top none = record {
  rising = λ i j le lt. absurd (omega arith);
  mark = subst (λ o. unwrap_or o 0 ≤ 0) (sym none) (omega arith);
  before = λ i lt. absurd (omega arith);
}

-- how many ranges there are after a cut
cut_length : (n : ℕ) (ranges : Option (List (ℕ × ℕ))) → n ≤ length (listed ranges) → length (listed (option_map (take n) ranges)) ≡ n
cut_length n None le = omega arith
cut_length n (Some rs) le = length-take-le n rs le

write_length : (floor : ℕ) (r : ℕ × ℕ) (ranges : List (ℕ × ℕ)) → length ranges ≤ length (with_range floor r ranges)
write_length floor r ranges = go (is_some (edit_pos floor r ranges))
  where
    go : (b : Bool) → length ranges ≤ length (cond b ranges (ranges ++ r ∷ []))
    go true = omega arith
    go false = omega (arith, length-append ranges (r ∷ []))

module _ (shape : Shape) (o : Outline) (kept : IsOrdered o) where
  now : ℕ → ℕ
  now t = length (listed (o.ranges t))

  pub ordered_after : (c : PageCommand) → IsAllowed shape c o → IsOrdered (outline_after c o)
  unfolding now
  ordered_after (write_as t addr bytes) placed = with_other (λ u ranges. IsOrderedOf (o.counts u) (o.top u) (length (listed ranges))) o.ranges t (Some (with_range (floor_in o t) (addr, length bytes) (listed (o.ranges t))))
      (more (o.counts t) (o.top t) (now t) (kept t) (length (with_range (floor_in o t) (addr, length bytes) (listed (o.ranges t)))) (write_length (floor_in o t) (addr, length bytes) (listed (o.ranges t)))) kept
  ordered_after (save t) none = with_other (λ u counts. IsOrderedOf counts (o.top u) (length (listed (o.ranges u)))) o.counts t (o.counts t ++ now t ∷ []) (ordered_save (o.counts t) (o.top t) (now t) (kept t) none) kept
  ordered_after (back t n) allowed = with_two (λ u ranges counts. IsOrderedOf counts (o.top u) (length (listed ranges))) o.ranges o.counts t (option_map (take (count_at (o.counts t) n)) (o.ranges t)) (take n (o.counts t))
      (subst (IsOrderedOf (take n (o.counts t)) (o.top t)) (sym (cut_length (count_at (o.counts t) n) (o.ranges t) (within (o.counts t) (o.top t) (now t) (kept t) (n - 1) (omega (arith, allowed.0, allowed.1)))))
      (ordered_back (o.counts t) (o.top t) (now t) (kept t) n allowed.0 allowed.1 allowed.2)) kept
  ordered_after (top_begin t) none = with_other (λ u top. IsOrderedOf (o.counts u) top (length (listed (o.ranges u)))) o.top t (Some (now t)) (ordered_begin (o.counts t) (o.top t) (now t) (kept t)) kept
  ordered_after (top_end t mark) is = with_two (λ u ranges top. IsOrderedOf (o.counts u) top (length (listed ranges))) o.ranges o.top t (option_map (take mark) (o.ranges t)) None
      (subst (IsOrderedOf (o.counts t) None) (sym (cut_length mark (o.ranges t) (mark_within (o.counts t) (o.top t) (now t) (kept t) mark is))) (ordered_top (o.counts t) (o.top t) (now t) (kept t) mark is)) kept
  ordered_after (end t commits) none = with_two (λ u ranges counts. IsOrderedOf counts (o.top u) (length (listed ranges))) o.ranges o.counts t None [] (ordered_none (o.top t) none) kept
  ordered_after (end_group ts) allowed = with_each_two (λ u ranges counts. IsOrderedOf counts (o.top u) (length (listed ranges))) o.ranges o.counts ts None [] (λ u is. ordered_none (o.top u) (allowed u is)) kept
  ordered_after (atomic_write t addr bytes) allowed = kept
  ordered_after (read_as t) allowed = kept
  ordered_after read allowed = kept

  live_at : (ranges : Option (List (ℕ × ℕ))) (pos : ℕ) → pos < length (listed ranges) → IsSome ranges
  live_at None pos lt = absurd (omega arith)
  live_at (Some rs) pos lt = refl

  if_some : (ranges : Option (List (ℕ × ℕ))) (command : Command) → (IsSome ranges → IsReady shape o.ranges command) → IfSome (option_map (λ rs. command) ranges) (IsReady shape o.ranges)
  if_some None command ready = tt
  if_some (Some rs) command ready = ready refl

  write_ready : (t addr : ℕ) (bytes : List ℕ) → IsPlaced shape addr (length bytes) → (floor : ℕ) (p : Option ℕ) → edit_pos floor (addr, length bytes) (listed (o.ranges t)) ≡ p → IsReady shape o.ranges (write_of t addr bytes p)
  write_ready t addr bytes placed floor None at = placed
  write_ready t addr bytes placed floor (Some pos) at =
      let found = edit_found (addr, length bytes) floor (listed (o.ranges t)) pos at in
      (live_at (o.ranges t) pos found.there, found.there, omega (arith, ap (λ (r : ℕ × ℕ). r.1) found.same))

  pub device_ready : (c : PageCommand) → IsAllowed shape c o → IfSome (device c o) (IsReady shape o.ranges)
  device_ready (write_as t addr bytes) placed = write_ready t addr bytes placed (floor_in o t) (edit_pos (floor_in o t) (addr, length bytes) (listed (o.ranges t))) refl
  device_ready (save t) allowed = tt
  device_ready (back t n) allowed = if_some (o.ranges t) (partial_abort t (count_at (o.counts t) n)) (λ live. (live, within (o.counts t) (o.top t) (length (listed (o.ranges t))) (kept t) (n - 1) (omega (arith, allowed.0, allowed.1))))
  device_ready (top_begin t) allowed = tt
  device_ready (top_end t mark) is = if_some (o.ranges t) (nested_top t mark) (λ live. (live, mark_within (o.counts t) (o.top t) (length (listed (o.ranges t))) (kept t) mark is))
  device_ready (end t true) allowed = if_some (o.ranges t) (commit t) (λ live. live)
  device_ready (end t false) allowed = if_some (o.ranges t) (abort t) (λ live. live)
  device_ready (end_group ts) allowed = λ t is. passes_in (λ u. is_some (o.ranges u)) ts t is
  device_ready (atomic_write t addr bytes) allowed = allowed
  device_ready (read_as t) allowed = tt
  device_ready read allowed = tt

-- A log that stays as the device keeps it.
use Rattle.std.proofs.Common.{◌≡◌, ℕ, zero, suc, ◌+◌, ◌-◌, ◌*◌, ◌<◌, ◌≤◌, true, false, inl, inr, List, [], ◌∷◌, ◌++◌, length, get_or, map, take, drop, refl, sym, ◌∙◌, ap, subst, append-nil, append_assoc, arith}
use Rattle.std.specs.Prelude.{filter, slice_index, slice_set, All, vec_capacity}
use Rattle.std.specs.List.{range_with_len}
use Rattle.std.proofs.lemmas.Bool.{cases_eq, false≢true}
use Rattle.std.proofs.lemmas.List.{length-append, take-append-drop, take_more, get_or-take, length-take, get_or-set_same, get_or-set_other, length-set}
use Rattle.std.proofs.lemmas.List.FromFn.{length-range_with_len}
use Rattle.std.proofs.lemmas.List.Elements.{All-nil, All-cons, All-head, All-tail, All-append}
use Rattle.std.proofs.lemmas.Nat.{mul-le}
use Rattle.array_shape.specs.declared.shape.Shape.{Shape}
use Rattle.array_shape.specs.declared.part.Part.{Part}
use Rattle.array_shape.specs.Places.{IsPlaced, IsShape, logger_of}
use Rattle.array_shape.specs.Parts.{IsPartOf, is_part_on}
use Rattle.logger.proofs.Staging.{kept_here, left_here}
use Rattle.write_back.specs.declared.entry.Entry.{Entry}
use Rattle.eaw_device.specs.declared.log.Log.{Log}
use Rattle.eaw_device.specs.Logs.{IsKept, Adds}
use Rattle.write_back.specs.Entries.{ranges_in, cells_on}
use Rattle.eaw_device.proofs.Entries.{numbers_split, numbers_more, ranges_in-append, ranges_in-take, length-ranges_in, logger_small, cells_on-append, few_entries}
use Rattle.write_back.proofs.EntryParts.{cells_on_here, cells_on_past}

abbrev pub HasPlace : Shape → ℕ × ℕ → Type 0
HasPlace shape r = IsPlaced shape r.0 r.1

-- how many cells a kept log has at each logger
pub length-cells_on_kept : (shape : Shape) (log : Log) (g : ℕ) → IsKept shape log → g < shape.loggers → length (cells_on shape g log.entries.items) ≡ slice_index log.held g
length-cells_on_kept shape log g kept lt = ap length (kept.cells g lt) ∙ length-range_with_len 0 (slice_index log.held g)

module _ (shape : Shape) (shaped : IsShape shape) (part : Part) (is_part : IsPartOf shape part) (items : List Entry) (held : List ℕ) (long : length held ≡ 8)
    (cells : (g : ℕ) → g < shape.loggers → cells_on shape g items ≡ range_with_len 0 (slice_index held g))
    (fits : (g : ℕ) → g < shape.loggers → slice_index held g ≤ shape.entries)
    (room : slice_index held part.logger < shape.entries) where
  abbrev pub next : Entry
  next = record { addr = part.addr; len = part.len; cell = slice_index held part.logger }

  pub part_logger : part.logger < shape.loggers
  part_logger = subst (λ (g : ℕ). g < shape.loggers) (sym is_part.logger) (logger_small shape part.addr shaped)

  abbrev pub more : List ℕ
  more = slice_set held part.logger (slice_index held part.logger + 1)

  pub held_here : slice_index more part.logger ≡ slice_index held part.logger + 1
  held_here = get_or-set_same held part.logger (slice_index held part.logger + 1) 0 (omega (arith, part_logger, shaped.most_loggers))

  pub cells_more : (g : ℕ) → g < shape.loggers → cells_on shape g (items ++ next ∷ []) ≡ range_with_len 0 (slice_index more g)
  cells_more g lt = cells_on-append shape g items (next ∷ []) ∙ elim (cases_eq g part.logger) [
    | inl is ↦
        let here : logger_of shape part.addr ≡ g = sym is_part.logger ∙ sym is in
        let count : slice_index held g + 1 ≡ slice_index more g = ap (λ (k : ℕ). slice_index held k + 1) is ∙ sym held_here ∙ ap (slice_index more) (sym is) in
        let cell : slice_index held part.logger ≡ 0 + slice_index held g = ap (slice_index held) (sym is) ∙ omega arith in
        (λ i. cells g lt i ++ cells_on_here shape g next [] here i)
        ∙ ap (λ (k : ℕ). range_with_len 0 (slice_index held g) ++ k ∷ []) cell
        ∙ numbers_more 0 (slice_index held g) ∙ ap (range_with_len 0) count
    | inr ne ↦
        (λ i. cells g lt i ++ cells_on_past shape g next [] (λ is. ne (sym is ∙ sym is_part.logger)) i)
        ∙ append-nil (range_with_len 0 (slice_index held g))
        ∙ ap (range_with_len 0) (sym (get_or-set_other held part.logger g (slice_index held part.logger + 1) 0 ne))
  ]

  pub fits_more : (g : ℕ) → g < shape.loggers → slice_index more g ≤ shape.entries
  fits_more g lt = elim (cases_eq g part.logger) [
    | inl is ↦ omega (arith, ap (slice_index more) is, held_here, room)
    | inr ne ↦ omega (arith, get_or-set_other held part.logger g (slice_index held part.logger + 1) 0 ne, fits g lt)
  ]

  pub fewer : length items < shape.loggers * shape.entries
  fewer =
      let few = few_entries shape (items ++ next ∷ []) shaped (λ g lt.
      omega (arith, ap length (cells_more g lt), length-range_with_len 0 (slice_index more g), fits_more g lt)) in
      omega (arith, few, length-append items (next ∷ []))

  pub placed_more : All (HasPlace shape) (ranges_in items) → All (HasPlace shape) (ranges_in (items ++ next ∷ []))
  placed_more placed = subst (All (HasPlace shape)) (sym (ranges_in-append items (next ∷ [])))
      (All-append (HasPlace shape) (ranges_in items) ((part.addr, part.len) ∷ []) placed
      (All-cons (HasPlace shape) (part.addr, part.len) [] is_part.placed (All-nil (HasPlace shape))))

  pub kept_more : (at : ℕ) → at ≡ part.logger → (now : Log) → now.is_live ≡ true → now.held ≡ slice_set held at (slice_index held at + 1)
      → now.entries.items ≡ items ++ record { addr = part.addr; len = part.len; cell = slice_index held at } ∷ []
      → shape.loggers * shape.entries ≤ vec_capacity now.entries → All (HasPlace shape) (ranges_in items) → IsKept shape now
  kept_more at is now live held_is items_are room_left placed =
      let held' : now.held ≡ more = held_is ∙ ap (λ (k : ℕ). slice_set held k (slice_index held k + 1)) is in
      let items' : now.entries.items ≡ items ++ next ∷ [] =
      items_are ∙ ap (λ (k : ℕ). items ++ record { addr = part.addr; len = part.len; cell = slice_index held k } ∷ []) is in
      record {
        loggers = ap length held' ∙ length-set held part.logger (slice_index held part.logger + 1) ∙ long;
        room = room_left;
        free = λ dead. absurd (false≢true (sym dead ∙ live));
        cells = λ g lt. ap (cells_on shape g) items' ∙ cells_more g lt ∙ ap (λ (l : List ℕ). range_with_len 0 (slice_index l g)) (sym held');
        fits = λ g lt. subst (λ (l : List ℕ). slice_index l g ≤ shape.entries) (sym held') (fits_more g lt);
        placed = subst (λ (es : List Entry). All (HasPlace shape) (ranges_in es)) (sym items') (placed_more placed);
      }

-- where the loop over the parts stands: these are left
pub record StandsAt (shape : Shape) (old now : Log) (all left : List Part) : Type 0 where
  pub kept : IsKept shape now
  pub live : now.is_live ≡ true
  pub within : All (IsPartOf shape) left
  pub room : (g : ℕ) → g < shape.loggers → slice_index now.held g + length (filter (is_part_on g) left) ≤ shape.entries
  pub done : List (ℕ × ℕ)
  pub adds : Adds old.entries.items now.entries.items done
  pub joins : done ++ map (λ (p : Part). (p.addr, p.len)) left ≡ map (λ (p : Part). (p.addr, p.len)) all

pub stands_first : (shape : Shape) (old : Log) (all left : List Part) → left ≡ all → IsKept shape old → All (IsPartOf shape) all
    → ((g : ℕ) → g < shape.loggers → slice_index old.held g + length (filter (is_part_on g) all) ≤ shape.entries)
    → StandsAt shape old (record { is_live = true; entries = old.entries; held = old.held }) all left
stands_first shape old all left is kept within room = subst (StandsAt shape old (record { is_live = true; entries = old.entries; held = old.held }) all) (sym is) (record {
  kept = record { loggers = kept.loggers; room = kept.room; free = λ dead. absurd (false≢true (sym dead)); cells = kept.cells; fits = kept.fits; placed = kept.placed };
  live = refl;
  within = within;
  room = room;
  done = [];
  adds = record { added = []; items = sym (append-nil old.entries.items); ranges_are = refl };
  joins = refl;
})

module _ (shape : Shape) (old now new : Log) (all s rest : List Part) (part : Part) (next : s ≡ part ∷ rest) (stands : StandsAt shape old now all s)
    (kept : IsKept shape new) (live : new.is_live ≡ true) (held : new.held ≡ slice_set now.held part.logger (slice_index now.held part.logger + 1))
    (entries : new.entries.items ≡ now.entries.items ++ record { addr = part.addr; len = part.len; cell = slice_index now.held part.logger } ∷ []) (shaped : IsShape shape) where
  here : All (IsPartOf shape) (part ∷ rest)
  here = subst (All (IsPartOf shape)) next stands.within

  below : part.logger < length now.held
  below =
      let small = logger_small shape part.addr shaped in
      let is = (All-head (IsPartOf shape) part rest here).logger in
      omega (arith, stands.kept.loggers, shaped.most_loggers)

  room_next : (g : ℕ) → g < shape.loggers → slice_index new.held g + length (filter (is_part_on g) rest) ≤ shape.entries
  room_next g lt =
      let was = stands.room g lt in
      let held_is : slice_index new.held g ≡ slice_index (slice_set now.held part.logger (slice_index now.held part.logger + 1)) g = ap (λ (l : List ℕ). slice_index l g) held in
      elim (cases_eq part.logger g) [
        | inl is ↦
            let one = get_or-set_same now.held part.logger (slice_index now.held part.logger + 1) 0 below in
            let count = ap length (kept_here g part s rest next is) in
            omega (arith, ap (slice_index now.held) is, ap (slice_index (slice_set now.held part.logger (slice_index now.held part.logger + 1))) is)
        | inr ne ↦
            let count = ap length (left_here g part s rest next ne) in
            omega (arith, get_or-set_other now.held part.logger g (slice_index now.held part.logger + 1) 0 (λ is. ne (sym is)))
      ]

  pub stands_next : StandsAt shape old new all rest
  stands_next = record {
    kept = kept;
    live = live;
    within = All-tail (IsPartOf shape) part rest here;
    room = room_next;
    done = stands.done ++ (part.addr, part.len) ∷ [];
    adds = record {
      added = stands.adds.added ++ record { addr = part.addr; len = part.len; cell = slice_index now.held part.logger } ∷ [];
      items = entries ∙ (λ i. stands.adds.items i ++ record { addr = part.addr; len = part.len; cell = slice_index now.held part.logger } ∷ [])
          ∙ append_assoc old.entries.items stands.adds.added (record { addr = part.addr; len = part.len; cell = slice_index now.held part.logger } ∷ []);
      ranges_are = ranges_in-append stands.adds.added (record { addr = part.addr; len = part.len; cell = slice_index now.held part.logger } ∷ [])
          ∙ (λ i. stands.adds.ranges_are i ++ (part.addr, part.len) ∷ []);
    };
    joins = append_assoc stands.done ((part.addr, part.len) ∷ []) (map (λ (p : Part). (p.addr, p.len)) rest)
        ∙ ap (λ (l : List Part). stands.done ++ map (λ (p : Part). (p.addr, p.len)) l) (sym next) ∙ stands.joins;
  }

-- when none is left
pub stands_last : (shape : Shape) (old now : Log) (all left : List Part) → left ≡ [] → StandsAt shape old now all left
    → Adds old.entries.items now.entries.items (map (λ (p : Part). (p.addr, p.len)) all)
stands_last shape old now all left none stands = subst (Adds old.entries.items now.entries.items)
    (sym (append-nil stands.done) ∙ ap (λ (l : List Part). stands.done ++ map (λ (p : Part). (p.addr, p.len)) l) (sym none) ∙ stands.joins) stands.adds

-- an entry lies in its page
get_or-ranges_in : (es : List Entry) (i : ℕ) (d : Entry) → get_or (ranges_in es) i (d.addr, d.len) ≡ ((get_or es i d).addr, (get_or es i d).len)
get_or-ranges_in [] i d = refl
get_or-ranges_in (e ∷ es) zero d = refl
get_or-ranges_in (e ∷ es) (suc i) d = get_or-ranges_in es i d

pub entry_placed : (shape : Shape) (es : List Entry) (i : ℕ) (d : Entry) → i < length es → All (HasPlace shape) (ranges_in es) → IsPlaced shape (get_or es i d).addr (get_or es i d).len
entry_placed shape es i d lt placed = subst (HasPlace shape) (get_or-ranges_in es i d) (placed i (d.addr, d.len) (omega (arith, length-ranges_in es)))

-- one more of the first entries
module _ (shape : Shape) (shaped : IsShape shape) (es : List Entry) (i : ℕ) (d : Entry) (lt : i < length es) (counts : List ℕ) (long : length counts ≡ 8)
    (are : (g : ℕ) → g < shape.loggers → slice_index counts g ≡ length (cells_on shape g (take i es))) (at : ℕ) (is : at ≡ logger_of shape (get_or es i d).addr) where
  pub at_below : at < shape.loggers
  at_below = subst (λ (k : ℕ). k < shape.loggers) (sym is) (logger_small shape (get_or es i d).addr shaped)

  pub counts_more : (g : ℕ) → g < shape.loggers → slice_index (slice_set counts at (slice_index counts at + 1)) g ≡ length (cells_on shape g (take (i + 1) es))
  counts_more g below =
      let more : length (cells_on shape g (take (i + 1) es)) ≡ length (cells_on shape g (take i es)) + length (cells_on shape g (get_or es i d ∷ [])) =
      ap (λ (l : List Entry). length (cells_on shape g l)) (take_more es i d lt) ∙ ap length (cells_on-append shape g (take i es) (get_or es i d ∷ []))
      ∙ length-append (cells_on shape g (take i es)) (cells_on shape g (get_or es i d ∷ [])) in
      elim (cases_eq g at) [
        | inl same ↦
            let one = ap length (cells_on_here shape g (get_or es i d) [] (sym is ∙ sym same)) in
            ap (slice_index (slice_set counts at (slice_index counts at + 1))) same
            ∙ get_or-set_same counts at (slice_index counts at + 1) 0 (omega (arith, at_below, shaped.most_loggers))
            ∙ omega (arith, ap (slice_index counts) same, are g below)
        | inr ne ↦
            let none = ap length (cells_on_past shape g (get_or es i d) [] (λ same. ne (sym same ∙ sym is))) in
            get_or-set_other counts at g (slice_index counts at + 1) 0 ne ∙ omega (arith, are g below)
      ]

-- what is left of a log's first entries
module _ (shape : Shape) (n : ℕ) (items : List Entry) (held : List ℕ)
    (cells : (g : ℕ) → g < shape.loggers → cells_on shape g items ≡ range_with_len 0 (slice_index held g)) where
  split : (g : ℕ) → cells_on shape g (take n items) ++ cells_on shape g (drop n items) ≡ cells_on shape g items
  split g = sym (cells_on-append shape g (take n items) (drop n items)) ∙ ap (cells_on shape g) (take-append-drop n items)

  pub first_cells : (g : ℕ) → g < shape.loggers → cells_on shape g (take n items) ≡ range_with_len 0 (length (cells_on shape g (take n items)))
  first_cells g lt = (numbers_split _ _ 0 (slice_index held g) (split g ∙ cells g lt)).0

  pub last_cells : (g : ℕ) → g < shape.loggers
      → cells_on shape g (drop n items) ≡ range_with_len (0 + length (cells_on shape g (take n items))) (slice_index held g - length (cells_on shape g (take n items)))
  last_cells g lt = (numbers_split _ _ 0 (slice_index held g) (split g ∙ cells g lt)).1

  pub first_few : (g : ℕ) → g < shape.loggers → length (cells_on shape g (take n items)) ≤ slice_index held g
  first_few g lt = (numbers_split _ _ 0 (slice_index held g) (split g ∙ cells g lt)).2

-- the first entries of a log, with as many cells at each logger as they have
pub kept_first : (shape : Shape) (n : ℕ) (old now : Log) → IsKept shape old → length now.held ≡ 8 → ((g : ℕ) → g < shape.loggers → slice_index now.held g ≡ length (cells_on shape g (take n old.entries.items)))
    → now.entries.items ≡ take n old.entries.items → vec_capacity now.entries ≡ vec_capacity old.entries → (now.is_live ≡ false → length now.entries.items ≡ 0) → IsKept shape now
kept_first shape n old now kept long counts items capacity free = record {
  loggers = long;
  room = omega (arith, kept.room, capacity);
  free = free;
  cells = λ g lt. ap (cells_on shape g) items ∙ first_cells shape n old.entries.items old.held kept.cells g lt ∙ ap (range_with_len 0) (sym (counts g lt));
  fits = λ g lt. omega (arith, counts g lt, first_few shape n old.entries.items old.held kept.cells g lt, kept.fits g lt);
  placed = subst (λ (es : List Entry). All (HasPlace shape) (ranges_in es)) (sym items) (subst (All (HasPlace shape)) (sym (ranges_in-take n old.entries.items))
      (λ k d lt. let small = length-take n (ranges_in old.entries.items) in
      let below : k < n = omega arith in
      subst (HasPlace shape) (sym (get_or-take n (ranges_in old.entries.items) k d below)) (kept.placed k d (omega arith))));
}

-- a log has at most 512 entries
pub log_short : (shape : Shape) (shaped : IsShape shape) (log : Log) → IsKept shape log → length log.entries.items ≤ 512
log_short shape shaped log kept =
    let few = few_entries shape log.entries.items shaped (λ g lt. omega (arith, length-cells_on_kept shape log g kept lt, kept.fits g lt)) in
    let most : shape.loggers * shape.entries ≤ 8 * 64 = mul-le shape.loggers shape.entries 8 64 shaped.most_loggers shaped.most_entries in
    omega (arith, few, most)

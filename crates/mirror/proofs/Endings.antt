-- Where there are numbers and entries for what is to come, something makes it a frame.
use Rattle.std.proofs.Common.{◌≡◌, ℕ, zero, suc, ◌+◌, ◌-◌, ◌*◌, ◌/◌, ◌%◌, ◌^◌, ◌<◌, ◌≤◌, inl, inr, ⊎_elim, Bool, true, false, cond, Result, Ok, Err, List, [], ◌∷◌, ◌++◌, length, drop, refl, sym, ◌∙◌, ap, subst, arith, append_assoc, mod-lt, mod-eq_of_lt, mul-pos, mul-le-mul}
use Rattle.std.specs.Prelude.{◌↔◌, All, flat_map, slice_index, replicate, None, Some, is_err}
use Rattle.std.specs.Result.{is_ok}
use Rattle.std.proofs.lemmas.Bool.{false≢true}
use Rattle.std.proofs.lemmas.Nat.{div-mul-add}
use Rattle.std.proofs.lemmas.List.{append-nil, length-append, length-set, length-replicate}
use Rattle.std.proofs.lemmas.List.Elements.{All-nil, All-cons, All-replicate}
use Rattle.byteorder.specs.Endian.{little_bytes}
use Rattle.array_shape.specs.declared.shape.Shape.{Shape}
use Rattle.array_shape.specs.Places.{IsShape, data_len, logger_of}
use Rattle.array_shape.specs.Logged.{Part, ranges_of}
use Rattle.eaw_face.specs.State.{count_on}
use Rattle.eaw_face.specs.Causes.{fit}
use Rattle.eaw_face.specs.Frame.{Group, mark, part_bytes, group_bytes, AreFrame, IsByte, IsPart, IsGroup, Rise, IsInside, IsGroupIn}
use Rattle.mirror.specs.declared.to_come.Groups.{Groups}
use Rattle.mirror.specs.declared.to_come.Parts.{Parts}
use Rattle.mirror.specs.declared.place.Place.{Place}
use Rattle.mirror.specs.declared.place.Place.TheVariants.{Mark, Sequence, GroupCount, Number, PartCount, Address, Length, Bytes, End}
use Rattle.mirror.specs.Following.{CanGoOn}
use Rattle.mirror.specs.Reading.{LeadTo}
use Rattle.mirror.specs.Rest.{NumberRest, BytesRest, GroupsRest, PartsRest, IsPartsRest, HasRoom, AfterLength, AfterAddress, AfterPartCount, AfterGroupCount, AfterSequence, Rest, one_more, total, HasNumbers, HasEntries, IsOpen, to_come, Begins, Takes}
use Rattle.mirror.proofs.Numbers.{number_first, number_begins, both_ways}
use Rattle.mirror.proofs.Parting.{part_splits, group_splits}
use Rattle.mirror.proofs.Holding.{room_over, total_more, all_free, some_free, counted_one}

-- a part of one byte
abbrev zero_at : ℕ → Part
zero_at addr = (addr, 0 ∷ [])

zero_part : (addr : ℕ) → addr < 2 ^ 64 → addr % 512 ≡ 0 → IsPart (zero_at addr)
zero_part addr small aligned = (small, omega arith, omega (arith, aligned), All-cons IsByte 0 [] (omega arith) (All-nil IsByte))

module _ (shape : Shape) (shaped : IsShape shape) where
  -- each logger has a page
  page_at : (g : ℕ) → g < shape.loggers → 512 * g + 1 ≤ data_len shape
  page_at g lt = let most : (g + 1) * 1 ≤ shape.loggers * shape.pages = mul-le-mul (omega (arith, lt)) (omega (arith, shaped.some_pages)) in omega (arith, most)

  page_logger : (g : ℕ) → g < shape.loggers → logger_of shape (512 * g) ≡ g
  page_logger g lt =
      let div : 512 * g / 512 ≡ g = ap (λ (n : ℕ). n / 512) (let e : 512 * g ≡ g * 512 + 0 = omega arith in e) ∙ div-mul-add g 512 0 (omega arith) in
      ap (λ (n : ℕ). n % shape.loggers) div ∙ mod-eq_of_lt lt

  page_aligned : (g : ℕ) → (512 * g) % 512 ≡ 0
  page_aligned g = omega arith

  -- a group of one such part
  abbrev one_group : ℕ → Group
  one_group number = record { number = number; parts = zero_at 0 ∷ [] }

  groups_list : (count low : ℕ) → low + count ≤ shape.numbers → (list : List Group) × (length list ≡ count) × Rise low list × All IsGroup list × All (IsGroupIn shape) list
  groups_list zero low fits = ([], refl, tt, All-nil IsGroup, All-nil (IsGroupIn shape))
  groups_list (suc n) low fits =
      let later = groups_list n (low + 1) (omega (arith, fits)) in (
        one_group low ∷ later.0,
        omega (arith, later.1),
        (omega arith, later.2),
        All-cons IsGroup (one_group low) later.0 (
          omega (arith, fits, shaped.most_numbers),
          omega arith,
          omega arith,
          All-cons IsPart (zero_at 0) [] (zero_part 0 (omega arith) (omega arith)) (All-nil IsPart),
        ) later.3,
        All-cons (IsGroupIn shape) (one_group low) later.0 (
          omega (arith, fits),
          All-cons (IsInside shape) (zero_at 0) [] (let page = page_at 0 (omega (arith, shaped.some_loggers)) in omega (arith, page)) (All-nil (IsInside shape)),
          (λ g lt. let one = counted_one shape g (0, 1) in omega (arith, one, shaped.some_entries)),
        ) later.4,
      )

  groups_to_come : (groups : Groups) → HasNumbers shape groups → (bytes : List ℕ) × GroupsRest shape groups bytes
  groups_to_come groups fits =
      let gs = groups_list groups.count groups.low fits in
      (flat_map group_bytes gs.0, record { list = gs.0; count = gs.1; rise = gs.2; are = gs.3; good = gs.4; is = refl })

  parts_list : (n : ℕ) (held : List ℕ) → length held ≡ 8 → n ≤ total (λ g. shape.entries - slice_index held g) shape.loggers
      → (list : List Part) × (length list ≡ n) × All IsPart list × All (IsInside shape) list × HasRoom shape held list
  parts_list zero held long fits = ([], refl, All-nil IsPart, All-nil (IsInside shape), λ g lt. omega arith)
  parts_list (suc n) held long fits =
      let found = some_free (λ g. shape.entries - slice_index held g) shape.loggers (omega (arith, fits)) in
      let g = found.0 in
      let k = logger_of shape (512 * g) in
      let same : g ≡ k = sym (page_logger g found.1) in
      let free : slice_index held k < shape.entries = subst (λ (m : ℕ). slice_index held m < shape.entries) same (omega (arith, found.2)) in
      let lt : k < shape.loggers = subst (λ (m : ℕ). m < shape.loggers) same found.1 in
      let within : k < length held = omega (arith, lt, long, shaped.most_loggers) in
      let more = total_more shape held (512 * g, 1) [] within free shape.loggers lt in
      let later = parts_list n (one_more held k) (length-set held k (slice_index held k + 1) ∙ long) (omega (arith, fits, more)) in
      let page = page_at g found.1 in (
        zero_at (512 * g) ∷ later.0,
        omega (arith, later.1),
        All-cons IsPart (zero_at (512 * g)) later.0 (zero_part (512 * g) (omega (arith, found.1, shaped.most_loggers)) (page_aligned g)) later.2,
        All-cons (IsInside shape) (zero_at (512 * g)) later.0 page later.3,
        λ h small. (room_over shape held (512 * g, 1) (ranges_of later.0) within free h).1 (later.4 h small),
      )

  parts_to_come : (count : ℕ) (held : List ℕ) (behind : Groups) → length held ≡ 8 → count ≤ total (λ g. shape.entries - slice_index held g) shape.loggers → HasNumbers shape behind
      → (bytes : List ℕ) × PartsRest shape count held behind bytes
  parts_to_come count held behind long fits numbers =
      let ps = parts_list count held long fits in
      let gs = groups_to_come behind numbers in
      (flat_map part_bytes ps.0 ++ gs.0, record { list = ps.0; count = ps.1; are = ps.2; inside = ps.3; room = ps.4; rest = gs.0; is = refl; after = gs.1 })

  abbrev Ends : Place → Type 0
  Ends place = (bytes : List ℕ) × Rest shape place bytes

  count_ends : (bytes : List ℕ) × NumberRest 2 0 1 (AfterGroupCount shape) bytes
  count_ends =
      let gs = groups_to_come (record { count = 1; low = 0 }) (omega (arith, shaped.some_numbers)) in
      (little_bytes 2 1 ++ gs.0, number_first (AfterGroupCount shape) 2 (little_bytes 2 1 ++ gs.0) 1 gs.0 (omega arith) refl (omega arith, gs.1))

  sequence_ends : (bytes : List ℕ) × NumberRest 8 0 1 (AfterSequence shape) bytes
  sequence_ends = (little_bytes 8 0 ++ count_ends.0, number_first (AfterSequence shape) 8 (little_bytes 8 0 ++ count_ends.0) 0 count_ends.0 (omega arith) refl count_ends.1)

  some_entries : 1 ≤ shape.loggers * shape.entries
  some_entries =
      let one : 1 ≤ shape.entries = omega (arith, shaped.some_entries) in
      let most : 1 * 1 ≤ shape.loggers * shape.entries = mul-le-mul shaped.some_loggers one in
      omega (arith, most)

  part_count_ends : (groups : Groups) → HasNumbers shape groups → (bytes : List ℕ) × NumberRest 2 0 1 (AfterPartCount shape groups) bytes
  part_count_ends groups fits =
      let ps = parts_to_come 1 (replicate 8 0) groups (length-replicate {A = ℕ} 8 0) (let all = all_free shape shaped.most_loggers in omega (arith, all, some_entries)) fits in
      (little_bytes 2 1 ++ ps.0, number_first (AfterPartCount shape groups) 2 (little_bytes 2 1 ++ ps.0) 1 ps.0 (omega arith) refl (omega arith, ps.1))

  length_ends : (addr : ℕ) (parts : Parts) → HasEntries shape parts → (bytes : List ℕ) × NumberRest 2 0 1 (AfterLength shape addr parts.count parts.held parts.behind) bytes
  length_ends addr parts fits =
      let ps = parts_to_come parts.count parts.held parts.behind parts.loggers fits.0 fits.1 in
      let stripe : addr % 512 < 512 = mod-lt addr (omega arith) in (
        little_bytes 2 1 ++ (0 ∷ ps.0),
        number_first (AfterLength shape addr parts.count parts.held parts.behind) 2 (little_bytes 2 1 ++ (0 ∷ ps.0)) 1 (0 ∷ ps.0) (omega arith) refl (
          omega arith,
          omega (arith, stripe),
          record { first = 0 ∷ []; count = refl; small = All-cons IsByte 0 [] (omega arith) (All-nil IsByte); rest = ps.0; is = refl; after = ps.1 },
        ),
      )

  -- at a place within no number
  pub ends : (place : Place) → IsOpen shape place → Begins place → Ends place
  ends (Mark taken) ready new = (drop taken mark ++ sequence_ends.0, record { rest = sequence_ends.0; is = refl; after = sequence_ends.1 })
  ends (Sequence n) ready new = (sequence_ends.0, (number_begins (AfterSequence shape) 8 n.left n.value n.weight new.0 new.1 new.2 sequence_ends.0).0 sequence_ends.1)
  ends (GroupCount n) ready new = (count_ends.0, (number_begins (AfterGroupCount shape) 2 n.left n.value n.weight new.0 new.1 new.2 count_ends.0).0 count_ends.1)
  ends (Number groups) ready new = let gs = groups_to_come groups ready.1 in (gs.0, (group_splits shape shaped groups ready.0 gs.0).0 gs.1)
  ends (PartCount n groups) ready new = let rest = part_count_ends groups ready.1 in (rest.0, (number_begins (AfterPartCount shape groups) 2 n.left n.value n.weight new.0 new.1 new.2 rest.0).0 rest.1)
  ends (Address n parts) ready new =
      let ps = parts_to_come parts.count parts.held parts.behind parts.loggers ready.2.0 ready.2.1 in
      (ps.0, (number_begins (AfterAddress shape parts) 8 n.left n.value n.weight new.0 new.1 new.2 ps.0).0 ((part_splits shape shaped parts ready.1 ps.0).0 ps.1))
  ends (Length n addr parts) ready new =
      let rest = length_ends addr parts ready.1 in
      (rest.0, (number_begins (AfterLength shape addr parts.count parts.held parts.behind) 2 n.left n.value n.weight new.0 new.1 new.2 rest.0).0 rest.1)
  ends (Bytes left parts) ready new =
      let ps = parts_to_come parts.count parts.held parts.behind parts.loggers ready.1.0 ready.1.1 in
      (replicate left 0 ++ ps.0, record { first = replicate left 0; count = length-replicate left 0; small = All-replicate IsByte left 0 (omega arith); rest = ps.0; is = refl; after = ps.1 })
  ends End ready new = ([], refl)

  new_short : (place : Place) → Begins place → to_come place ≤ 8
  new_short (Mark taken) new = omega arith
  new_short (Sequence n) new = omega (arith, new.0)
  new_short (GroupCount n) new = omega (arith, new.0)
  new_short (Number groups) new = omega arith
  new_short (PartCount n groups) new = omega (arith, new.0)
  new_short (Address n parts) new = omega (arith, new.0)
  new_short (Length n addr parts) new = omega (arith, new.0)
  new_short (Bytes left parts) new = omega arith
  new_short End new = omega arith

  some_to_come : (place : Place) → IsOpen shape place → 0 < to_come place
  some_to_come (Mark taken) ready = omega arith
  some_to_come (Sequence n) ready = ready
  some_to_come (GroupCount n) ready = ready
  some_to_come (Number groups) ready = omega arith
  some_to_come (PartCount n groups) ready = ready.0
  some_to_come (Address n parts) ready = ready.0
  some_to_come (Length n addr parts) ready = ready.0
  some_to_come (Bytes left parts) ready = omega arith
  some_to_come End ready = omega arith

  abbrev Reach : Place → List ℕ → Type 0
  Reach place bytes = (c : CanGoOn shape bytes) × (length c.part + to_come place ≤ 8)

  begun : (place : Place) (bytes : List ℕ) → IsOpen shape place → Begins place → ((more : List ℕ) → AreFrame shape (bytes ++ more) ↔ Rest shape place more) → Reach place bytes
  begun place bytes ready new same =
      let rest = ends place ready new in
      (record { whole = bytes; part = []; are = sym (append-nil bytes); short = omega arith; rest = rest.0; frame = (same rest.0).1 rest.1 }, (let short = new_short place new in omega (arith, short)))

  -- no byte has come
  pub leads_first : (place : Place) (bytes : List ℕ) → bytes ≡ [] → IsOpen shape place → Begins place → ((more : List ℕ) → AreFrame shape more ↔ Rest shape place more) → LeadTo shape place bytes
  leads_first place bytes none ready new same =
      let here : (more : List ℕ) → AreFrame shape (bytes ++ more) ↔ Rest shape place more = λ more. subst (λ (l : List ℕ). AreFrame shape (l ++ more) ↔ Rest shape place more) (sym none) (same more) in
      let reach = begun place bytes ready new here in
      record { ready = ready; same = here; goes_on = reach.0; short = reach.1 }

  -- one byte more
  pub leads_on : (place next : Place) (bytes new : List ℕ) (byte : ℕ) → new ≡ bytes ++ byte ∷ [] → LeadTo shape place bytes → Takes shape place byte (Some next) → LeadTo shape next new
  leads_on place next bytes new byte is lead takes =
      record { ready = takes.0; same = same; goes_on = reach.0; short = reach.1 }
    where
      same : (more : List ℕ) → AreFrame shape (new ++ more) ↔ Rest shape next more
      same more =
          let joined : bytes ++ (byte ∷ more) ≡ new ++ more = sym (append_assoc bytes (byte ∷ []) more) ∙ ap (λ (l : List ℕ). l ++ more) (sym is) in
          both_ways (subst (λ (l : List ℕ). AreFrame shape l ↔ Rest shape place (byte ∷ more)) joined (lead.same (byte ∷ more))) (takes.2 more)

      within : suc (to_come next) ≡ to_come place → Reach next new
      within less =
          let c = lead.goes_on in
          let one = length-append c.part (byte ∷ []) in
          let some = some_to_come next takes.0 in (
            record {
              whole = c.whole;
              part = c.part ++ byte ∷ [];
              are = is ∙ ap (λ (l : List ℕ). l ++ byte ∷ []) c.are ∙ append_assoc c.whole c.part (byte ∷ []);
              short = omega (arith, one, lead.short, less, some);
              rest = c.rest;
              frame = c.frame;
            },
            omega (arith, one, lead.short, less),
          )

      reach : Reach next new
      reach = ⊎_elim within (λ begins. begun next new takes.0 begins same) takes.1

-- what a push that is done leaves
pub pushed : {T E : Type 0} (r : Result T E) (new old : List ℕ) (byte : ℕ) → is_err r ≡ false → new ≡ cond (is_ok r) (old ++ byte ∷ []) old → new ≡ old ++ byte ∷ []
pushed (Ok x) new old byte fine is = is
pushed (Err e) new old byte fine is = absurd (false≢true (sym fine))

-- Bytes replaced within a logged part.
use Rattle.std.proofs.Common.{◌≡◌, ◌≢◌, ℕ, zero, suc, ◌+◌, ◌<◌, ◌≤◌, Bool, true, false, cond, ◌||◌, inl, inr, List, [], ◌∷◌, length, get_or, take, drop, Result, Ok, Err, refl, sym, ◌∙◌, ap, subst, arith}
use Rattle.std.specs.Prelude.{IsTrue, slice_get, slice_index, Some}
use Rattle.std.specs.Option.{option_map}
use Rattle.std.specs.List.{range_with_len}
use Rattle.std.proofs.lemmas.Bool.{and_parts, cases_lt, cases_eq, eq-eqb, ne_eqb}
use Rattle.std.proofs.lemmas.List.{ext_get_or, get_or-take, get_or-drop, length-take, length-take-le, length-drop, take_min}
use Rattle.std.proofs.lemmas.Option.{slice_get_within}
use Rattle.mars_base.specs.Causes.{Rose}
use Rattle.mars_base.specs.Bytes.{put}
use Rattle.pcm_media.specs.View.{View, Writes, LeavesOnly}
use Rattle.mars_base.proofs.Puts.{length-put, get_or-put_before, get_or-put_after, get_or-put_inside}
use Rattle.array_shape.specs.declared.shape.Shape.{Shape}
use Rattle.array_shape.specs.Places.{media_len, cell_at, logger_of, IsShape}
use Rattle.row_bytes.proofs.Saying.{head_said-same}
use Rattle.array_shape.specs.Logged.{Part, ranges_of, IsOwned}
use Rattle.array_image.specs.Image.{cell_of, cell_head, cell_part, IsGoodCell}
use Rattle.array_image.proofs.Places.{cell_fits_in}
use Rattle.array_image.proofs.Rows.{cell_away, length-cell}
use Rattle.array_image.proofs.Frames.{AllWithin}
use Rattle.eaw_device.proofs.Cells.{AreInCells}
use Rattle.eaw_face.specs.State.{listed, with_log, edited, range_at, part_at}
use Rattle.eaw_face.specs.StoreView.{IsLive}
use Rattle.eaw_face.specs.Command.{log_edit}
use Rattle.eaw_face.specs.Does as face
use Rattle.eaw_face.specs.declared.fault.EawFault.{EawFault}
use Rattle.eaw_face.specs.declared.fault.EawFault.TheVariants.{Media}
use Rattle.write_back.specs.declared.entry.Entry.{Entry}
use Rattle.eaw_device.specs.declared.log.Log.{Log}
use Rattle.write_back.specs.declared.commits.LateData.{LateData}
use Rattle.eaw_device.specs.Opens.{Opens}
use Rattle.eaw_device.specs.Logs.{IsHeld, entries_at}
use Rattle.write_back.specs.Entries.{parts_in, cells_on}
use Rattle.eaw_device.specs.Laws.{alive_shown}
use Rattle.array_shape.specs.NumberSet.{has}
use Rattle.row_bytes.specs.declared.ballot.Ballot.{Ballot}
use Rattle.coordinator.specs.Commits.{cells_in}
use Rattle.write_back.specs.Turns.{has_some}
use Rattle.write_back.specs.Spared.{AreSpared}
use Rattle.write_back.proofs.Sparing.{late_held}
use Rattle.write_back.proofs.Tying.{or_also}
use Rattle.eaw_device.specs.Sound.{IsSound, shown, view_of}
use Rattle.write_back.proofs.EntryParts.{firsts_same, rests_same, cells_on_here, cells_on_past, part_in}
use Rattle.eaw_device.proofs.LogParts.{EachCell, EachIn, each_number, each_cell, each_held, parts_in_same}
use Rattle.eaw_device.proofs.Staged.{cells_apart}
use Rattle.eaw_device.proofs.Tables.{entries_there, entries_live, parts_there, held_kept, others_kept, sound_media}
use Rattle.eaw_device.proofs.Sure.{cells_data, cells_sure, cells_time}
use Rattle.eaw_device.proofs.Doing.{Found, done, failed, one_log}
use Rattle.eaw_device.proofs.Looks.{entry_range, entry_part, entry_has, entry_cell, entry_logger, entry_inside}

-- the range of the part at a position
pub range_at-ranges_of : (ps : List Part) (pos : ℕ) → range_at (ranges_of ps) pos ≡ ((part_at ps pos).0, length (part_at ps pos).1)
range_at-ranges_of [] pos = refl
range_at-ranges_of (p ∷ ps) zero = refl
range_at-ranges_of (p ∷ ps) (suc pos) = range_at-ranges_of ps pos

ranges_of-edited : (ps : List Part) (pos at : ℕ) (bytes : List ℕ) → at + length bytes ≤ (range_at (ranges_of ps) pos).1 → ranges_of (edited pos at bytes ps) ≡ ranges_of ps
ranges_of-edited [] pos at bytes fits = refl
ranges_of-edited (p ∷ ps) zero at bytes fits = ap (λ (n : ℕ). (p.0, n) ∷ ranges_of ps) (length-put p.1 at bytes fits)
ranges_of-edited (p ∷ ps) (suc pos) at bytes fits = ap (λ (l : List (ℕ × ℕ)). (p.0, length p.1) ∷ l) (ranges_of-edited ps pos at bytes fits)

-- the bytes of a part, as many as it has
pub take_part : (n k : ℕ) (xs : List ℕ) → n ≡ length (take k xs) → take n xs ≡ take k xs
take_part n k xs is = ap (λ (m : ℕ). take m xs) (is ∙ length-take k xs) ∙ take_min k xs

-- an edited cell
module _ (cell : List ℕ) (long : length cell ≡ 528) (at : ℕ) (bytes : List ℕ) (within : at + length bytes ≤ 512) where
  fits : 16 + at + length bytes ≤ length cell
  fits = omega arith

  pub edited_head : cell_head (put cell (16 + at) bytes) ≡ cell_head cell
  edited_head = head_said-same (take 16 (put cell (16 + at) bytes)) (take 16 cell) (λ k lt.
      get_or-take 16 (put cell (16 + at) bytes) k 0 lt ∙ get_or-put_before cell (16 + at) bytes fits k (omega arith) ∙ sym (get_or-take 16 cell k 0 lt))

  module _ (few : (cell_head cell).len ≤ 512) (inner : at + length bytes ≤ length (cell_part cell).1) where
    abbrev n : ℕ
    n = (cell_head cell).len

    part_long : length (cell_part cell).1 ≡ n
    part_long = length-take-le n (drop 16 cell) (omega (arith, length-drop 16 cell))

    edited_bytes : take n (drop 16 (put cell (16 + at) bytes)) ≡ put (cell_part cell).1 at bytes
    edited_bytes =
        let new_long = length-put cell (16 + at) bytes fits in
        let left : length (take n (drop 16 (put cell (16 + at) bytes))) ≡ n = length-take-le n (drop 16 (put cell (16 + at) bytes)) (omega (arith, length-drop 16 (put cell (16 + at) bytes), new_long)) in
        ext_get_or 0 (take n (drop 16 (put cell (16 + at) bytes))) (put (cell_part cell).1 at bytes) (left ∙ sym part_long ∙ sym (length-put (cell_part cell).1 at bytes inner)) (λ i lt.
        let low : i < n = omega (arith, left) in
        get_or-take n (drop 16 (put cell (16 + at) bytes)) i 0 low ∙ get_or-drop 16 (put cell (16 + at) bytes) i 0 ∙ elim (cases_lt i at) [
          | inl before ↦
              get_or-put_before cell (16 + at) bytes fits (16 + i) (omega arith)
              ∙ sym (get_or-put_before (cell_part cell).1 at bytes inner i before ∙ get_or-take n (drop 16 cell) i 0 low ∙ get_or-drop 16 cell i 0)
          | inr past ↦ elim (cases_lt i (at + length bytes)) [
            | inl inside ↦
                get_or-put_inside cell (16 + at) bytes fits (16 + i) (omega arith) (omega arith) ∙ ap (λ (k : ℕ). get_or bytes k 0) (omega arith)
                ∙ sym (get_or-put_inside (cell_part cell).1 at bytes inner i past inside)
            | inr after ↦
                get_or-put_after cell (16 + at) bytes fits (16 + i) (omega arith)
                ∙ sym (get_or-put_after (cell_part cell).1 at bytes inner i after ∙ get_or-take n (drop 16 cell) i 0 low ∙ get_or-drop 16 cell i 0)
          ]
        ])

    pub edited_part : cell_part (put cell (16 + at) bytes) ≡ ((cell_part cell).0, put (cell_part cell).1 at bytes)
    edited_part = (λ i. ((edited_head i).addr, take (edited_head i).len (drop 16 (put cell (16 + at) bytes)))) ∙ ap (λ (l : List ℕ). ((cell_head cell).addr, l)) edited_bytes

-- entries of which each logger's cells are numbered
abbrev pub AreNumbered : Shape → List Entry → Type 0
AreNumbered shape es = (g : ℕ) → g < shape.loggers → (a : ℕ) × (n : ℕ) × (cells_on shape g es ≡ range_with_len a n)

each_absurd : (P : ℕ → Type 0) (cs : List ℕ) → ((c : ℕ) → P c) → EachIn P cs
each_absurd P [] has = tt
each_absurd P (c ∷ cs) has = (has c, each_absurd P cs has)

module _ (shape : Shape) (shaped : IsShape shape) (x : Entry) (xs : List Entry) (numbered : AreNumbered shape (x ∷ xs)) where
  -- the first number and the rest
  split_numbers : (g : ℕ) → logger_of shape x.addr ≡ g → (a n : ℕ) → cells_on shape g (x ∷ xs) ≡ range_with_len a n → (m : ℕ) × (x.cell ≡ a) × (cells_on shape g xs ≡ range_with_len (a + 1) m)
  split_numbers g is a zero are = absurd (let long = ap length (sym (cells_on_here shape g x xs is) ∙ are) in omega (arith, long))
  split_numbers g is a (suc m) are =
      let here = sym (cells_on_here shape g x xs is) ∙ are in
      (m, firsts_same x.cell a (cells_on shape g xs) (range_with_len (a + 1) m) here, rests_same x.cell a (cells_on shape g xs) (range_with_len (a + 1) m) here)

  numbered_rest : AreNumbered shape xs
  numbered_rest g lt = elim (cases_eq (logger_of shape x.addr) g) [
    | inl is ↦ (let all = numbered g lt in let rest = split_numbers g is all.0 all.1 all.2 in (all.0 + 1, rest.0, rest.2))
    | inr ne ↦ (let all = numbered g lt in (all.0, all.1, sym (cells_on_past shape g x xs ne) ∙ all.2))
  ]

  -- later entries at its logger have other cells
  others_later : EachCell shape (λ h c. h ≡ logger_of shape x.addr → x.cell < c) xs
  others_later = each_cell shape shaped (λ h c. h ≡ logger_of shape x.addr → x.cell < c) xs (λ g lt. elim (cases_eq (logger_of shape x.addr) g) [
    | inl is ↦
        let all = numbered g lt in
        let rest = split_numbers g is all.0 all.1 all.2 in
        subst (EachIn (λ c. g ≡ logger_of shape x.addr → x.cell < c)) (sym rest.2) (each_number (λ c. g ≡ logger_of shape x.addr → x.cell < c) (all.0 + 1) rest.0 (λ k le below same. omega (arith, rest.1)))
    | inr ne ↦ each_absurd (λ c. g ≡ logger_of shape x.addr → x.cell < c) (cells_on shape g xs) (λ c same. absurd (ne (sym same)))
  ])

each_weaker : (shape : Shape) (P Q : ℕ → ℕ → Type 0) (es : List Entry) → ((g c : ℕ) → P g c → Q g c) → EachCell shape P es → EachCell shape Q es
each_weaker shape P Q [] weak has = tt
each_weaker shape P Q (e ∷ es) weak has = (weak (logger_of shape e.addr) e.cell has.0, each_weaker shape P Q es weak has.1)

-- the cell of one entry changes, and no other that entries have
module _ (shape : Shape) (shaped : IsShape shape) (old new : List ℕ) (t : ℕ) (e : Entry) (at : ℕ) (bytes : List ℕ)
    (here : cell_part (cell_of shape new (logger_of shape e.addr) t e.cell) ≡ ((part_in shape old t (logger_of shape e.addr) e.cell).0, put (part_in shape old t (logger_of shape e.addr) e.cell).1 at bytes)) where
  abbrev Same : ℕ → ℕ → Type 0
  Same g c = ((g ≡ logger_of shape e.addr) × (c ≡ e.cell) → ⊥) → cell_of shape new g t c ≡ cell_of shape old g t c

  pub edited_parts : (es : List Entry) (pos : ℕ) → pos < length es → e ≡ get_or es pos e → AreNumbered shape es → EachCell shape Same es → parts_in shape new t es ≡ edited pos at bytes (parts_in shape old t es)
  edited_parts [] pos lt is numbered same = absurd (omega arith)
  edited_parts (x ∷ xs) zero lt is numbered same =
      let head : cell_part (cell_of shape new (logger_of shape x.addr) t x.cell) ≡ ((part_in shape old t (logger_of shape x.addr) x.cell).0, put (part_in shape old t (logger_of shape x.addr) x.cell).1 at bytes) =
      subst (λ (y : Entry). cell_part (cell_of shape new (logger_of shape y.addr) t y.cell) ≡ ((part_in shape old t (logger_of shape y.addr) y.cell).0, put (part_in shape old t (logger_of shape y.addr) y.cell).1 at bytes)) is here in
      let later = others_later shape shaped x xs numbered in
      let rest = parts_in_same shape old new t xs (both xs same.1 later is) in
      λ i. head i ∷ rest i
    where
      both : (ys : List Entry) → EachCell shape Same ys → EachCell shape (λ h c. h ≡ logger_of shape x.addr → x.cell < c) ys → e ≡ x → EachCell shape (λ g c. cell_of shape new g t c ≡ cell_of shape old g t c) ys
      both [] same later is = tt
      both (y ∷ ys) same later is =
          let logger = ap (λ (z : Entry). logger_of shape z.addr) is in
          let cell = ap (λ (z : Entry). z.cell) is in
          (same.0 (λ meets. let low = later.0 (meets.0 ∙ logger) in omega (arith, low, meets.1, cell)), both ys same.1 later.1 is)
  edited_parts (x ∷ xs) (suc pos) lt is numbered same =
      let later = others_later shape shaped x xs numbered in
      let apart = entry_has shape (λ h c. h ≡ logger_of shape x.addr → x.cell < c) xs pos e (omega arith) is later in
      let first = same.0 (λ meets. let low = apart (sym meets.0) in omega (arith, low, meets.1)) in
      let rest = edited_parts xs pos (omega arith) is (numbered_rest shape shaped x xs numbered) same.1 in
      λ i. cell_part (first i) ∷ rest i

module _ (tells : Bool) (old new : View) (shape : Shape) (logs : List Log) (late : LateData) (is_dead : Bool) (sound : IsSound tells old shape logs late is_dead) (alive : is_dead ≡ false) (t : ℕ) (live : IsLive (view_of old shape logs late is_dead) t)
    (log : Log) (found : Found tells old shape logs late is_dead t log) (pos : ℕ) (e : Entry) (lt : pos < length log.entries.items) (is : e ≡ get_or log.entries.items pos e) (at : ℕ) (bytes : List ℕ) (inner : at + length bytes ≤ e.len)
    (short : e.len ≤ 512) (its : Shape) (shape_is : its ≡ shape) (n : ℕ) (n_is : n ≡ logger_of shape e.addr) {T E : Type 0} (r : Result T E)
    (call : Writes tells ((cell_at its n t e.cell + 16 + at, length bytes) ∷ []) old new r) (long : IsTrue tells → length old.content.bytes ≡ media_len shape) where
  abbrev g : ℕ
  g = logger_of shape e.addr

  abbrev ranges : List (ℕ × ℕ)
  ranges = (cell_at shape g t e.cell + 16 + at, length bytes) ∷ []

  there : g < shape.loggers
  there = entry_logger shape sound.shaped log found.kept pos e lt is

  inside : e.cell < shape.entries
  inside = entry_inside shape sound.shaped log found.kept pos e lt is

  does : Writes tells ranges old new r
  does = subst (λ (p : Shape × ℕ). Writes tells ((cell_at p.0 p.1 t e.cell + 16 + at, length bytes) ∷ []) old new r) (λ i. (shape_is i, n_is i)) call

  in_cells : AreInCells shape ranges
  in_cells x none = ((λ from to. none g t e.cell there found.small inside (omega arith) (omega arith)), tt)

  spared : AreSpared shape late.queue.cells ranges late.queue.ballots.items
  spared = sparing late.queue.ballots.items ((sound.in_order alive).before t log found.there)
    where
      sparing : (bs : List Ballot) → (has_some bs t ≡ true → (h : ℕ) → h < shape.loggers → slice_index log.held h ≤ (cells_in late.queue.cells h t).first) → AreSpared shape late.queue.cells ranges bs
      sparing [] before = tt
      sparing (b ∷ bs) before = (
        (λ h u f i lt' below low row from to at end. (
          (λ from' to'. cells_apart shape h u f g t e.cell lt' below low there found.small inside (λ meet.
              let on : has b.group t ≡ true = ap (has b.group) (sym meet.1) ∙ (and_parts (has b.mask h) (has b.group u) row).1 in
              let first = before (ap (λ (x : Bool). x || has_some bs t) on) g there in
              let its = ap (λ (p : ℕ × ℕ). (cells_in late.queue.cells p.0 p.1).first) (λ k. (meet.0 k, meet.1 k)) in
              omega (arith, first, its, from, meet.2, entry_cell shape sound.shaped log found.kept pos e lt is)) i at end (omega arith) (omega arith)),
          tt,
        )),
        sparing bs (λ so. before (or_also (has b.group t) (has_some bs t) so)),
      )

  within : AllWithin (media_len shape) ranges
  within = (omega (arith, cell_fits_in shape g t e.cell there found.small inside), tt)

  time : IsTrue tells → is_dead ≡ false → LeavesOnly (face.IsEither (Opens shape) (shown shape late is_dead old.content.bytes) (shown shape late is_dead old.content.bytes)) old new
  time told fine = cells_time tells shape ranges in_cells within late spared old new r does told (long told) (found.told told).sure is_dead alive

  pub edit_failed : {U : Type 0} → Rose old.faults new.faults → (let failed : Result U EawFault = Err Media in face.Does tells (Opens shape) (log_edit t pos at bytes) (view_of old shape logs late is_dead) (view_of new shape logs late true) failed)
  edit_failed rose = failed tells (Opens shape) (log_edit t pos at bytes) (view_of old shape logs late is_dead) (view_of new shape logs late true) refl refl does.device (refl, λ alive. refl) does.cause.later time alive live tt rose refl (λ u other. refl)

  -- every other cell
  cell_same : IsTrue tells → (h u f : ℕ) → h < shape.loggers → u < shape.numbers → f < shape.entries → ((h ≡ g) × (u ≡ t) × (f ≡ e.cell) → ⊥) → cell_of shape new.content.bytes h u f ≡ cell_of shape old.content.bytes h u f
  cell_same told h u f lt' below low ne = cell_away shape ranges old.content.bytes new.content.bytes h u f (does.touched told).bytes (λ x from to. (
    (λ from' to'. cells_apart shape h u f g t e.cell lt' below low there found.small inside ne x from to (omega arith) (omega arith)),
    tt,
  ))

  module _ (edited_cell : IsTrue tells → cell_of its new.content.bytes n t e.cell ≡ put (cell_of its old.content.bytes n t e.cell) (16 + at) bytes) where
    abbrev cell : List ℕ
    cell = cell_of shape old.content.bytes g t e.cell

    new_cell : IsTrue tells → cell_of shape new.content.bytes g t e.cell ≡ put cell (16 + at) bytes
    new_cell told = subst (λ (p : Shape × ℕ). cell_of p.0 new.content.bytes p.1 t e.cell ≡ put (cell_of p.0 old.content.bytes p.1 t e.cell) (16 + at) bytes) (λ i. (shape_is i, n_is i)) (edited_cell told)

    cell_long : IsTrue tells → length cell ≡ 528
    cell_long told = length-cell shape old.content.bytes g t e.cell (long told) there found.small inside

    good : IsTrue tells → IsGoodCell shape g cell
    good told = (found.held told).good g e.cell there (entry_cell shape sound.shaped log found.kept pos e lt is)

    part_len : IsTrue tells → e.len ≡ length (cell_part cell).1
    part_len told =
        ap (λ (r : ℕ × ℕ). r.1) (entry_range log.entries.items pos e lt is ∙ ap (λ (rs : List (ℕ × ℕ)). range_at rs pos) (sym (found.held told).heads) ∙ range_at-ranges_of (parts_in shape old.content.bytes t log.entries.items) pos)
        ∙ ap (λ (p : Part). length p.1) (entry_part shape old.content.bytes t log.entries.items pos e lt is)

    new_part : IsTrue tells → cell_part (cell_of shape new.content.bytes g t e.cell) ≡ ((cell_part cell).0, put (cell_part cell).1 at bytes)
    new_part told = ap cell_part (new_cell told) ∙ edited_part cell (cell_long told) at bytes (omega arith) (omega (arith, (good told).placed.page)) (omega (arith, part_len told))

    new_parts : IsTrue tells → parts_in shape new.content.bytes t log.entries.items ≡ edited pos at bytes (parts_in shape old.content.bytes t log.entries.items)
    new_parts told = edited_parts shape sound.shaped old.content.bytes new.content.bytes t e at bytes (new_part told) log.entries.items pos lt is
        (λ h below. (0, slice_index log.held h, found.kept.cells h below))
        (each_held shape sound.shaped log (λ h c. ((h ≡ g) × (c ≡ e.cell) → ⊥) → cell_of shape new.content.bytes h t c ≡ cell_of shape old.content.bytes h t c) found.kept (λ h c below few ne.
        let fits = found.kept.fits h below in
        cell_same told h t c below found.small (omega arith) (λ meets. ne (meets.0, meets.2))))

    held_now : IsTrue tells → IsHeld shape new.content.bytes t log
    held_now told = record {
      good = λ h c below few. elim (cases_eq h g) [
        | inl same ↦ elim (cases_eq c e.cell) [
          | inl this ↦
              let head = ap cell_head (new_cell told) ∙ edited_head cell (cell_long told) at bytes (omega arith) in
              subst (λ (p : ℕ × ℕ). IsGoodCell shape p.0 (cell_of shape new.content.bytes p.0 t p.1)) (λ i. (sym same i, sym this i))
              (subst (λ head. IsOwned shape g head.addr head.len) (sym head) (good told))
          | inr ne ↦ kept_good told h c below few (λ meets. ne meets.2)
        ]
        | inr ne ↦ kept_good told h c below few (λ meets. ne meets.0)
      ];
      heads = ap ranges_of (new_parts told) ∙ ranges_of-edited (parts_in shape old.content.bytes t log.entries.items) pos at bytes (omega (arith, many told)) ∙ (found.held told).heads;
    }
      where
        kept_good : IsTrue tells → (h c : ℕ) → h < shape.loggers → c < slice_index log.held h → ((h ≡ g) × (t ≡ t) × (c ≡ e.cell) → ⊥) → IsGoodCell shape h (cell_of shape new.content.bytes h t c)
        kept_good told h c below few ne =
            let fits = found.kept.fits h below in
            subst (IsGoodCell shape h) (sym (cell_same told h t c below found.small (omega arith) ne)) ((found.held told).good h c below few)

        many : IsTrue tells → e.len ≡ (range_at (ranges_of (parts_in shape old.content.bytes t log.entries.items)) pos).1
        many told = ap (λ (r : ℕ × ℕ). r.1) (entry_range log.entries.items pos e lt is ∙ ap (λ (rs : List (ℕ × ℕ)). range_at rs pos) (sym (found.held told).heads))

    other : IsTrue tells → (u : ℕ) → u ≢ t → (l : Log) → slice_get logs u ≡ Some l → (h c : ℕ) → h < shape.loggers → c < slice_index l.held h → cell_of shape new.content.bytes h u c ≡ cell_of shape old.content.bytes h u c
    other told u ne l lies h c below few =
        let fits = (sound.kept u l lies).fits h below in
        let known = slice_get_within logs u l lies in
        cell_same told h u c below (omega (arith, sound.many)) (omega arith) (λ meets. ne meets.1)

    pub edit_sound : IsSound tells new shape logs late is_dead
    edit_sound = sound_media tells old new shape logs late is_dead sound does.size
        (λ told fine. cells_sure shape ranges in_cells late.queue spared old.content (long told) within (found.told told).sure new.content (does.touched told))
        (λ told fine. late_held shape late sound.ready (sound.in_order fine).tied ranges spared old.content.bytes new.content.bytes (does.touched told).bytes (sound.told told fine).shown)
        (λ told fine u l lies. elim (cases_eq u t) [
          | inl same ↦
              let one = one_log logs t log l found.there (ap (slice_get logs) (sym same) ∙ lies) in
              subst (λ (p : ℕ × Log). IsHeld shape new.content.bytes p.0 p.1) (λ i. (sym same i, one i)) (held_now told)
          | inr ne ↦ held_kept shape old.content.bytes new.content.bytes u l (sound.kept u l lies) (other told u ne l lies) ((found.told told).held u l lies)
        ])

    its_entries : entries_at logs t ≡ Some log.entries.items
    its_entries = entries_there logs t log found.there ∙ entries_live log found.live

    logs_now : IsTrue tells → (u : ℕ) → option_map (parts_in shape new.content.bytes u) (entries_at logs u)
        ≡ with_log (λ (v : ℕ). option_map (parts_in shape old.content.bytes v) (entries_at logs v)) t (Some (edited pos at bytes (listed (option_map (parts_in shape old.content.bytes t) (entries_at logs t))))) u
    logs_now told u = elim (cases_eq u t) [
      | inl same ↦
          ap (λ (v : ℕ). option_map (parts_in shape new.content.bytes v) (entries_at logs v)) same ∙ ap (option_map (parts_in shape new.content.bytes t)) its_entries
          ∙ ap (λ (ps : List Part). Some ps) (new_parts told ∙ ap (edited pos at bytes) (sym (parts_there shape logs t log found.there found.kept old.content.bytes)))
          ∙ sym (ap (λ (b : Bool). cond b (Some (edited pos at bytes (listed (option_map (parts_in shape old.content.bytes t) (entries_at logs t))))) (option_map (parts_in shape old.content.bytes u) (entries_at logs u))) (eq-eqb u t same))
      | inr ne ↦
          others_kept shape logs old.content.bytes new.content.bytes u (sound.kept u) (other told u ne)
          ∙ sym (ap (λ (b : Bool). cond b (Some (edited pos at bytes (listed (option_map (parts_in shape old.content.bytes t) (entries_at logs t))))) (option_map (parts_in shape old.content.bytes u) (entries_at logs u))) (ne_eqb u t ne))
    ]

    pub edit_done : {U : Type 0} (x : U) → new.faults ≡ old.faults → (let done : Result U EawFault = Ok x in face.Does tells (Opens shape) (log_edit t pos at bytes) (view_of old shape logs late is_dead) (view_of new shape logs late is_dead) done)
    edit_done x same' = done tells (Opens shape) (log_edit t pos at bytes) (view_of old shape logs late is_dead) (view_of new shape logs late is_dead) refl refl does.device (refl, λ alive. refl) does.cause.later time x same' alive live tt (record {
      alive = alive;
      ranges = refl;
      state = λ told.
          let bytes' = alive_shown shape late is_dead new.content.bytes alive ∙ cells_data shape ranges in_cells late.queue spared old.content (long told) within (found.told told).sure new.content (does.touched told) ∙ sym (alive_shown shape late is_dead old.content.bytes alive) in
          λ i. record { bytes = bytes' i; logs = λ u. logs_now told u i };
    })

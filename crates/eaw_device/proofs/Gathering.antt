-- What the logs of a set of numbers have, as it is named for a commit.
use Rattle.std.proofs.Common.{◌≡◌, ℕ, zero, suc, ◌-◌, ◌<◌, ◌≤◌, true, ◌&&◌, List, [], ◌∷◌, length, refl, sym, ◌∙◌, ap, subst, arith}
use Rattle.std.specs.Prelude.{nat_lt, slice_get, slice_index, flat_map, Option, Some, None}
use Rattle.std.specs.Option.{option_map, option_and_then, ForSome}
use Rattle.std.proofs.lemmas.List.{nil_from_length}
use Rattle.std.proofs.lemmas.Option.{slice_get_past}
use Rattle.array_shape.specs.declared.shape.Shape.{Shape}
use Rattle.array_shape.specs.Places.{media_len, data_len}
use Rattle.array_shape.specs.Logged.{applied, AllPlaced, parts_at}
use Rattle.array_shape.specs.NumberSet.{has, numbers_in}
use Rattle.array_image.specs.Image.{parts_from}
use Rattle.coordinator.specs.declared.cells.Cells.{Cells}
use Rattle.coordinator.specs.Commits.{cells_in}
use Rattle.eaw_face.specs.State.{listed, count_on}
use Rattle.eaw_device.specs.declared.log.Log.{Log}
use Rattle.eaw_device.specs.Logs.{IsKept, IsHeld, entries_of, ranges_logged, parts_logged}
use Rattle.write_back.specs.Entries.{ranges_in, parts_in}
use Rattle.eaw_device.specs.Groups.{HaveCells, HaveParts}
use Rattle.eaw_device.proofs.Grouping.{group_parts}
use Rattle.eaw_device.proofs.Costing.{behind}
use Rattle.eaw_device.proofs.Entries.{length-ranges_in}
use Rattle.eaw_device.proofs.LogParts.{named_here, named_placed}
use Rattle.eaw_device.proofs.Members.{gathered_applied}
use Rattle.eaw_device.proofs.Tables.{ranges_there, parts_there}

-- the log of each number of the array
pub log_there : (logs : List Log) (t : ℕ) → t < length logs → (log : Log) × (slice_get logs t ≡ Some log)
log_there [] t lt = absurd (omega arith)
log_there (l ∷ ls) zero lt = (l, refl)
log_there (l ∷ ls) (suc t) lt = log_there ls t (omega arith)

module _ (shape : Shape) (logs : List Log) (many : length logs ≡ shape.numbers) (kept : (t : ℕ) → ForSome (slice_get logs t) (IsKept shape)) where
  -- no number beyond the array's has logged anything
  pub past_ranges : (t : ℕ) → shape.numbers ≤ t → listed (ranges_logged logs t) ≡ []
  past_ranges t past = ap (λ (o : Option Log). listed (option_map ranges_in (option_and_then entries_of o))) (slice_get_past logs t (omega (arith, many)))

  -- what a logger holds of a number is what it has of its ranges
  pub held_is : (t : ℕ) (log : Log) → slice_get logs t ≡ Some log → (g : ℕ) → g < shape.loggers → count_on shape g (listed (ranges_logged logs t)) ≡ slice_index log.held g
  held_is t log there g lt =
      ap (count_on shape g) (ranges_there shape logs t log there (kept t log there))
      ∙ behind shape log (kept t log there) 0 g lt ∙ whole
    where
      whole : slice_index log.held g - 0 ≡ slice_index log.held g
      whole = omega arith

  its_parts : (image : List ℕ) (t : ℕ) (log : Log) → slice_get logs t ≡ Some log → listed (parts_logged shape image logs t) ≡ parts_in shape image t log.entries.items
  its_parts image t log there = parts_there shape logs t log there (kept t log there) image

  -- a number that has logged nothing has no part
  pub none : (image : List ℕ) (t : ℕ) → listed (ranges_logged logs t) ≡ [] → listed (parts_logged shape image logs t) ≡ []
  none image t empty = go (slice_get logs t) refl
    where
      go : (o : Option Log) → slice_get logs t ≡ o → listed (parts_logged shape image logs t) ≡ []
      go None is = ap (λ (o : Option Log). listed (option_map (parts_in shape image t) (option_and_then entries_of o))) is
      go (Some log) is =
          let items : log.entries.items ≡ [] = nil_from_length log.entries.items (omega (arith, length-ranges_in log.entries.items, ap length (ranges_there shape logs t log is (kept t log is)), ap length empty)) in
          its_parts image t log is ∙ ap (parts_in shape image t) items

  module _ (tids group : ℕ) (cells : List Cells) (numbers : (t : ℕ) → t < shape.numbers → has group t ≡ (has tids t && nat_lt 0 (length (listed (ranges_logged logs t)))))
      (first : (g t : ℕ) → g < shape.loggers → t < shape.numbers → has group t ≡ true → (cells_in cells g t).first ≡ 0)
      (count : (g t : ℕ) → g < shape.loggers → t < shape.numbers → has group t ≡ true → (cells_in cells g t).count ≡ count_on shape g (listed (ranges_logged logs t))) where
    counted : (t : ℕ) (log : Log) → slice_get logs t ≡ Some log → (g : ℕ) → g < shape.loggers → t < shape.numbers → has group t ≡ true → (cells_in cells g t).count ≡ slice_index log.held g
    counted t log there g lt lt' so = count g t lt lt' so ∙ held_is t log there g lt

    pub gathered_fit : HaveCells shape group cells
    gathered_fit g t lt lt' so =
        let found = log_there logs t (omega (arith, many)) in
        omega (arith, first g t lt lt' so, counted t found.0 found.1 g lt lt' so, (kept t found.0 found.1).fits g lt)

    module _ (image : List ℕ) (held : (t : ℕ) → ForSome (slice_get logs t) (IsHeld shape image t)) where
      pub gathered_good : HaveParts shape image group cells
      gathered_good g t e lt lt' so from below =
          let found = log_there logs t (omega (arith, many)) in
          (held t found.0 found.1).good g e lt (omega (arith, first g t lt lt' so, counted t found.0 found.1 g lt lt' so))

      placed : (t : ℕ) → t < shape.numbers → AllPlaced shape (listed (parts_logged shape image logs t))
      placed t lt =
          let found = log_there logs t (omega (arith, many)) in
          subst (AllPlaced shape) (sym (its_parts image t found.0 found.1)) (named_placed shape image t found.0 (kept t found.0 found.1) 0 (held t found.0 found.1))

      here : (g t : ℕ) → g < shape.loggers → t < shape.numbers → has group t ≡ true → parts_at shape g (listed (parts_logged shape image logs t)) ≡ parts_from shape image g t (cells_in cells g t).first (cells_in cells g t).count
      here g t lt lt' so =
          let found = log_there logs t (omega (arith, many)) in
          let log = found.0 in
          let whole : slice_index log.held g - 0 ≡ (cells_in cells g t).count = omega (arith, counted t log found.1 g lt lt' so) in
          ap (parts_at shape g) (its_parts image t log found.1)
          ∙ named_here shape image t log (kept t log found.1) 0 (held t log found.1) g lt
          ∙ (λ i. parts_from shape image g t (sym (first g t lt lt' so) i) (whole i))

      pub logs_applied : (d : List ℕ) → length image ≡ media_len shape → length d ≡ data_len shape
          → applied (group_parts shape image group cells) d ≡ applied (flat_map (λ t. listed (parts_logged shape image logs t)) (numbers_in tids)) d
      logs_applied d long d_long =
          gathered_applied shape tids group (λ t. listed (ranges_logged logs t)) numbers past_ranges image cells (λ t. listed (parts_logged shape image logs t)) placed (none image) here d long gathered_fit gathered_good d_long

-- What the opening of a file does at its path.
use Rattle.std.specs.Prelude.{ℕ, ◌≡◌, ◌≤◌, ◌⊎◌, true, false}
use Rattle.media_file.specs.declared.opening.Opening.{Opening}

-- before the first call
abbrev pub anew : Opening
anew = record { made = false; len = 0; in_folder = false }

-- A file is made only where bytes are asked for. Then it is durable in its folder, or it was there long enough to have bytes.
pub record IsOpenedFor (least : ℕ) (opening : Opening) : Type 0 where
  pub none_made : least ≡ 0 → opening.made ≡ false
  pub durable : 1 ≤ least → (1 ≤ opening.len) ⊎ (opening.in_folder ≡ true)

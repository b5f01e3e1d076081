-- A super page that has the table `main` alone.
use Rattle.std.proofs.Common.{◌≡◌, ℕ, ◌^◌, ◌<◌, List, [], length, refl, sym, ◌∙◌, ap, arith}
use Rattle.byteorder.specs.Numbers.{little_number-reads_back}
use Rattle.record_slots.specs.Super.{SaysSuper, main_bytes, main_entries, main_super, super_bytes, part_bytes, version_said, form_said, next_said, entries_said, free_in}
use Rattle.record_slots.specs.declared.super_page.Super.{Super}

-- its bytes are those of a super page
pub written_alone : (form slot page : ℕ) → super_bytes (main_super form slot page) ≡ main_bytes form slot page
unfolding part_bytes
written_alone form slot page = refl

-- it says what was written
pub says_main : (form slot page : ℕ) → slot < 2 ^ 32 → page < 2 ^ 32 → SaysSuper (main_bytes form slot page) (main_super form slot page)
unfolding version_said form_said next_said entries_said free_in
says_main form slot page fits pages_fit = record {
  has_mark = record { mark = refl; some = omega arith; known = omega arith };
  version = refl;
  form = refl;
  next_slot = sym (little_number-reads_back 4 slot [] fits);
  next_page = sym (little_number-reads_back 4 page [] pages_fit);
  entries = refl;
  free_slot = refl;
  free_page = refl;
  free_slots = refl;
  free_pages = refl;
}

-- it has a page's bytes
pub length-main : (form slot page : ℕ) → length (main_bytes form slot page) ≡ 512
length-main form slot page = refl

-- the same for what the writer was given
abbrev pub main_with : (form slot page : ℕ) → List ℕ → Super
main_with form slot page entries = record (main_super form slot page) { entries = entries }

pub written_main : (form slot page : ℕ) (entries out : List ℕ) → entries ≡ main_entries → out ≡ super_bytes (main_with form slot page entries) → out ≡ main_bytes form slot page
written_main form slot page entries out same is = is ∙ ap (λ (l : List ℕ). super_bytes (main_with form slot page l)) same ∙ written_alone form slot page

-- Making a fresh array: what might have been left since the entry, and its status.
use Rattle.std.proofs.Common.{◌≡◌, ◌⊎◌, ℕ, inl, inr, ⊎_elim, List, Bool, refl, subst, arith}
use Rattle.std.specs.Prelude.{IsTrue}
use Rattle.pcm_media.specs.Images.{MayLeave}
use Rattle.pcm_media.specs.View.{View, LeavesOnly}
use Rattle.array_shape.specs.declared.shape.Shape.{Shape}
use Rattle.eaw_device.specs.Made.{IsOldOrNew}
use Rattle.command_words.specs.declared.words.FormatNumbers.{FormatNumbers}
use Rattle.mars_shell.specs.Formats.{FormatSays}
use Rattle.array_runs.specs.declared.status.Status.{Status}
use Rattle.array_runs.specs.declared.status.Status.TheVariants.{Usage, MediaFault, NoMemory}

-- since the entry
pub old_or_new : (tells : Bool) (told : IsTrue tells) (shape : Shape) (said : ℕ → List ℕ) (old new : View)
    → ((image : List ℕ) → IsTrue tells → old.left_since old.moment image → MayLeave old.content image)
    → LeavesOnly (IsOldOrNew shape said old.content) old new → (image : List ℕ) → new.left_since old.moment image → IsOldOrNew shape said old.content image
old_or_new tells told shape said old new only_now time image left =
    ⊎_elim (λ was. inl (only_now image told was)) (λ some. some) (time.only old.moment image (omega arith) left)

-- words that ask for a format do not ask for nothing
pub no_usage : (asked : FormatNumbers) (size : ℕ) (status : Status) (Untold Untouched : Type 0) → FormatSays asked size status Untold Untouched → status ≡ Usage → ⊥
no_usage asked size status Untold Untouched says is = subst (λ (s : Status). FormatSays asked size s Untold Untouched) is says

-- a format that ends before its text has told nothing
pub format_untold : (asked : FormatNumbers) (size : ℕ) (status : Status) (Untold Untouched : Type 0) → FormatSays asked size status Untold Untouched → (status ≡ MediaFault) ⊎ (status ≡ NoMemory) → Untold
format_untold asked size status Untold Untouched says (inl is) =
    let failed : FormatSays asked size MediaFault Untold Untouched = subst (λ (s : Status). FormatSays asked size s Untold Untouched) is says in
    failed.1
format_untold asked size status Untold Untouched says (inr is) = absurd (subst (λ (s : Status). FormatSays asked size s Untold Untouched) is says)

-- Which index the data has, and work under that index.
use Rattle.std.proofs.Common.{◌≡◌, ℕ, zero, suc, true, inl, List, refl, ap, subst}
use Rattle.eaw_face.specs.StoreView.{StoreView}
use Rattle.record_slots.specs.Places.{IsSuper, page_bytes}
use Rattle.record_slots.specs.Super.{form_said}
use Rattle.page_store.specs.Index.{Index}
use Rattle.key_list.specs.Seen.{chain_excludes}
use Rattle.btree_pages.specs.Trees.{trees_excluded}
use Rattle.mars_core.specs.Attached.{CoreCause}
use Rattle.mars_core.specs.declared.fault.CoreFault.{CoreFault}
use Rattle.mars_core.specs.declared.fault.CoreFault.TheVariants.{Damaged, Media, NoMemory}
use Rattle.array_runs.specs.Forms.{index_of_form, index_at}

-- the index that a super page of this form names
pub of_form : (form : ℕ) (bytes : List ℕ) → form_said (page_bytes bytes 0) ≡ form → index_at bytes ≡ index_of_form form
unfolding index_at
of_form form bytes is = ap index_of_form is

pub sound_is_own : (form : ℕ) (bytes : List ℕ) → (index_of_form form).sound bytes → index_at bytes ≡ index_of_form form
sound_is_own zero bytes sound = of_form 0 bytes sound.0.form_is
sound_is_own (suc zero) bytes sound = of_form 1 bytes sound.0.form_is
sound_is_own (suc (suc form)) bytes sound = of_form 0 bytes sound.0.form_is

-- data that is sound under the index of other data names that index too
pub sound_says : (old new : List ℕ) → (index_at old).sound new → index_at new ≡ index_at old
unfolding index_at
sound_says old new sound = sound_is_own (form_said (page_bytes old 0)) new sound

-- a super page that is sound for neither form is the first page to fail
fails_first : (form : ℕ) (bytes : List ℕ) → (IsSuper 0 bytes → ⊥) → (IsSuper 1 bytes → ⊥) → (index_of_form form).fails bytes 0
fails_first zero bytes none other = inl (none, refl)
fails_first (suc zero) bytes none other = inl (other, refl)
fails_first (suc (suc form)) bytes none other = inl (none, refl)

pub super_fails : (bytes : List ℕ) → (IsSuper 0 bytes → ⊥) → (IsSuper 1 bytes → ⊥) → (index_at bytes).fails bytes 0
unfolding index_at
super_fails bytes none other = fails_first (form_said (page_bytes bytes 0)) bytes none other

-- no page of sound data fails
not_both : (form : ℕ) (bytes : List ℕ) (page : ℕ) → (index_of_form form).fails bytes page → (index_of_form form).sound bytes → ⊥
not_both zero bytes page fails sound = chain_excludes bytes page fails sound
not_both (suc zero) bytes page fails sound = trees_excluded bytes page fails sound
not_both (suc (suc form)) bytes page fails sound = chain_excludes bytes page fails sound

pub damage_is_no_soundness : (bytes : List ℕ) (page : ℕ) → (index_at bytes).fails bytes page → (index_at bytes).sound bytes → ⊥
unfolding index_at
damage_is_no_soundness bytes page fails sound = not_both (form_said (page_bytes bytes 0)) bytes page fails sound

-- a cause for some data is one for equal data
pub moved_cause : (index : Index) (old mid : StoreView) → mid.state.bytes ≡ old.state.bytes → (fault : CoreFault) → CoreCause true index mid fault → CoreCause true index old fault
moved_cause index old mid is (Damaged page) cause = λ told. subst (λ (b : List ℕ). index.fails b page) is (cause told)
moved_cause index old mid is Media cause = tt
moved_cause index old mid is NoMemory cause = tt

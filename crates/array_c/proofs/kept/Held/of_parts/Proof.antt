-- `of_parts` moves two fields, and what they own goes with them.
use mathlib.Core.Path.{◌≡◌, refl}
use contract.Running.{tables, tables_of}
use denote.Exit.{yes}
use Rattle.box_parts.proofs.Moving.{moved}
use Rattle.array_c.specs.Held.{held_owns}
use Rattle.array_c.specs.contracts.kept.Held as Held
use Rattle.array_c.specs.contracts.kept.Held.of_parts.Key.{name as #self}
use Rattle.array_c.proofs.Parts as Parts
use Rattle.array_c.proofs.kept.Held.of_parts.Statement as stated
use Rattle.array_c.proofs.kept.Held.of_parts.Code as code

pub of_parts_spec : {M : Type 1} → stated.statement M
unfolding tables_of
of_parts_spec 𝓤 𝓛 𝓜 𝓡 wired =
    moved Parts.row Held.the_row yes (λ d. tt) (λ d. d.ptr) (λ d. d.alloc) (λ d. held_owns d.alloc d.ptr d.value) (λ d. record { at = d.ptr; alloc = d.alloc; array = d.value })
    (λ d h. h.array ≡ d.value) (λ d. refl) (λ d vs. refl) (λ d vs. refl) 𝓛 (tables_of 𝓤 𝓛.H 𝓜 (tables 𝓤 𝓛.H 𝓜 𝓡 𝓡.env)) (λ κs x f. refl) Parts.name Held.the_type.name #self (code.unfolded 𝓤 𝓛.H 𝓜 𝓡 wired)

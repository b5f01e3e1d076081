-- `into_parts` moves two fields, and what they own goes with them.
use mathlib.Core.Path.{◌≡◌, refl}
use contract.Running.{tables, tables_of}
use denote.Exit.{yes}
use Rattle.box_parts.proofs.Moving.{moved}
use Rattle.mars_c.specs.Held.{held_owns}
use Rattle.mars_c.specs.contracts.kept.Held as Held
use Rattle.mars_c.specs.contracts.kept.Held.into_parts.Key.{name as #self}
use Rattle.mars_c.proofs.Parts as Parts
use Rattle.mars_c.proofs.kept.Held.into_parts.Statement as stated
use Rattle.mars_c.proofs.kept.Held.into_parts.Code as code

pub into_parts_spec : {M : Type 1} → stated.statement M
unfolding tables_of
into_parts_spec 𝓤 𝓛 𝓜 𝓡 wired =
    moved Held.the_row Parts.row yes (λ d. tt) (λ d. d.at) (λ d. d.alloc) (λ d. held_owns d.alloc d.at d.array) (λ d. record { ptr = d.at; alloc = d.alloc; value = d.array })
    (λ d p. p.value ≡ d.array) (λ d. refl) (λ d vs. refl) (λ d vs. refl) 𝓛 (tables_of 𝓤 𝓛.H 𝓜 (tables 𝓤 𝓛.H 𝓜 𝓡 𝓡.env)) (λ κs x f. refl) Held.the_type.name Parts.name #self (code.unfolded 𝓤 𝓛.H 𝓜 𝓡 wired)

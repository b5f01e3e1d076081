-- Why nothing was asked.
use Rattle.std.proofs.Common.{◌≡◌, ℕ, ℤ, ◌⊎◌, inl, inr, List, ap, w32, to_z, of_z, ◌^◌, ◌≤◌}
use Rattle.taped_records.specs.declared.records.TapedRecords.{TapedRecords}
use Rattle.taped_records.specs.Status.{bad_key}
use Rattle.taped_records.specs.Calls.{IsOutside, IsBadName}
use Rattle.taped_records.specs.Long.{IsBadPlace}

-- a status as it is handed on
abbrev pub handed_on : ℤ → ℤ
handed_on status = to_z w32 (of_z w32 status)

bad_place : (name : List ℕ) (key : ℕ) (status : ℤ) → IsBadName name status ⊎ ((status ≡ bad_key) × (2 ^ 55 ≤ key)) → IsBadName name (handed_on status) ⊎ ((handed_on status ≡ bad_key) × (2 ^ 55 ≤ key))
bad_place name key status (inl bad) = inl (ap handed_on bad.0, bad.1)
bad_place name key status (inr bad) = inr (ap handed_on bad.0, bad.1)

-- the reason of a status is that of the status that is handed on
pub reason : (name : List ℕ) (key caller : ℕ) (array : TapedRecords) (status : ℤ) → IsOutside caller array status ⊎ IsBadPlace name key status → IsOutside caller array (handed_on status) ⊎ IsBadPlace name key (handed_on status)
reason name key caller array status (inl outside) = inl (ap handed_on outside.0, outside.1)
reason name key caller array status (inr bad) = inr (record { why = bad_place name key status bad.why })

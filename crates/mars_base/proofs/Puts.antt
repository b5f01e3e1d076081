-- Bytes after a write.
use Rattle.std.proofs.Common.{◌≡◌, ℕ, ◌+◌, ◌-◌, ◌<◌, ◌≤◌, List, ◌++◌, length, get_or, take, drop, ◌∙◌, ap, arith}
use Rattle.std.proofs.lemmas.List.{get_or-append_right, get_or_append_left, get_or-drop, get_or-take, length-take-le, length-append, length-drop}
use Rattle.mars_base.specs.Bytes.{put}

module _ (old : List ℕ) (at : ℕ) (bytes : List ℕ) (fits : at + length bytes ≤ length old) where
  pub length-put : length (put old at bytes) ≡ length old
  length-put = omega (arith, length-append (take at old ++ bytes) (drop (at + length bytes) old), length-append (take at old) bytes, length-take-le at old (omega arith), length-drop (at + length bytes) old)

  pub get_or-put_before : (i : ℕ) → i < at → get_or (put old at bytes) i 0 ≡ get_or old i 0
  get_or-put_before i lt =
      let front : length (take at old) ≡ at = length-take-le at old (omega arith) in
      get_or_append_left (take at old ++ bytes) (drop (at + length bytes) old) 0 i (omega (arith, length-append (take at old) bytes))
      ∙ get_or_append_left (take at old) bytes 0 i (omega arith)
      ∙ get_or-take at old i 0 lt

  pub get_or-put_after : (i : ℕ) → at + length bytes ≤ i → get_or (put old at bytes) i 0 ≡ get_or old i 0
  get_or-put_after i le =
      let front : length (take at old) ≡ at = length-take-le at old (omega arith) in
      get_or-append_right (take at old ++ bytes) (drop (at + length bytes) old) (at + length bytes) i 0 (omega (arith, length-append (take at old) bytes)) le
      ∙ get_or-drop (at + length bytes) old (i - (at + length bytes)) 0
      ∙ ap (λ (k : ℕ). get_or old k 0) (omega arith)

  pub get_or-put_inside : (i : ℕ) → at ≤ i → i < at + length bytes → get_or (put old at bytes) i 0 ≡ get_or bytes (i - at) 0
  get_or-put_inside i le lt =
      let front : length (take at old) ≡ at = length-take-le at old (omega arith) in
      get_or_append_left (take at old ++ bytes) (drop (at + length bytes) old) 0 i (omega (arith, length-append (take at old) bytes))
      ∙ get_or-append_right (take at old) bytes at i 0 front le

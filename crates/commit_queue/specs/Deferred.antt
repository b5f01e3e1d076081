-- The order numbers of an image.
use Rattle.std.specs.Prelude.{ℕ, ◌-◌, Bool, List}
use Rattle.std.specs.List.{filter, list_any, range_with_len}
use Rattle.array_shape.specs.declared.shape.Shape.{Shape}
use Rattle.array_image.specs.Decided.{decided_as, orders}

-- the different order numbers above 0 among the decided rows, rising
abbrev pub deferred_orders : Shape → List ℕ → List ℕ
deferred_orders shape image = filter (λ o. list_any (λ t. list_any (λ g. decided_as shape image o g t) (range_with_len 0 shape.loggers))
    (range_with_len 0 shape.numbers)) (range_with_len 1 (orders - 1))

-- a test holds for some number below n
abbrev pub any_below : ℕ → (ℕ → Bool) → Bool
any_below n p = list_any p (range_with_len 0 n)

-- some decided row has this order number
abbrev pub is_order : Shape → List ℕ → ℕ → Bool
is_order shape image o = any_below shape.numbers (λ t. any_below shape.loggers (λ g. decided_as shape image o g t))

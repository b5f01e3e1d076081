-- The image of a new array whose data has the pages of a source, and what is left of it.
use Rattle.std.specs.Prelude.{ℕ, ◌+◌, ◌-◌, ◌*◌, ◌≤◌, ◌<◌, List, ◌++◌, replicate}
use Rattle.array_shape.specs.declared.shape.Shape.{Shape}
use Rattle.array_shape.specs.Places.{data_at, region_at}
use Rattle.row_bytes.specs.Header.{header_bytes}
use Rattle.array_image.specs.Joined.{joined}
use Rattle.image_pieces.specs.Pieces.{Rest}
use Rattle.image_pieces.specs.declared.stages.Stage.{Stage}
use Rattle.image_pieces.specs.declared.stages.Stage.TheVariants.{Header, Region, Pages}

-- page k of logger g: pages are dealt to the loggers by turns
abbrev pub page_of : Shape → (ℕ → List ℕ) → ℕ → ℕ → List ℕ
page_of shape said g k = said (k * shape.loggers + g)

-- the length of a logger's rows and cells
abbrev pub front_len : Shape → ℕ
front_len shape = 16 * shape.numbers + 528 * (shape.numbers * shape.entries)

-- the region of logger g: its rows and cells are zero, and its pages follow
abbrev pub region_of : Shape → (ℕ → List ℕ) → ℕ → List ℕ
region_of shape said g = replicate (front_len shape) 0 ++ joined (page_of shape said g) 0 shape.pages

-- all regions, behind the header
abbrev pub image_of : Shape → (ℕ → List ℕ) → List ℕ
image_of shape said = header_bytes shape ++ joined (region_of shape said) 0 shape.loggers

-- what is left of it
abbrev pub left_of : Shape → (ℕ → List ℕ) → Stage → List ℕ
left_of shape said Header = image_of shape said
left_of shape said (Region g) = joined (region_of shape said) g (shape.loggers - g)
left_of shape said (Pages g k) = joined (page_of shape said g) k (shape.pages - k) ++ joined (region_of shape said) (g + 1) (shape.loggers - (g + 1))

-- where that begins
abbrev pub place_of_stage : Shape → Stage → ℕ
place_of_stage shape Header = 0
place_of_stage shape (Region g) = region_at shape g
place_of_stage shape (Pages g k) = data_at shape g + 512 * k

-- the same with the place where it begins
abbrev pub rest_of : Shape → (ℕ → List ℕ) → Stage → Rest
rest_of shape said stage = record { at = place_of_stage shape stage; left = left_of shape said stage }

-- there is such a logger, or it is the end, and there is such a page
abbrev pub IsStage : Shape → Stage → Type 0
IsStage shape Header = Unit {0}
IsStage shape (Region g) = g ≤ shape.loggers
IsStage shape (Pages g k) = (g < shape.loggers) × (k < shape.pages)

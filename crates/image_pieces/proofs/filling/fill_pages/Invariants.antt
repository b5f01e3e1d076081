use Rattle.std.proofs.Common.{◌≡◌, ◌*◌, length, take}
use Rattle.array_image.specs.Joined.{joined}
use Rattle.image_pieces.specs.Image.{page_of}
use Rattle.image_pieces.proofs.filling.fill_pages.Given as goal

-- so many pages are written
abbrev pub invariant-loop-j : goal.invariant-loop-j
invariant-loop-j g l = record { long : length l.out ≡ 65536; all : take (512 * l.j) l.out ≡ joined (page_of l.shape (g.P.PageSource.pages l.source) l.logger) l.page l.j }

use Rattle.std.proofs.Common.{◌≡◌, ℕ, List, ◌+◌, ◌-◌, ◌<◌, ◌≤◌, ◌++◌, length, replicate, sym, ap, subst, ◌∙◌, append_assoc, arith}
use Rattle.std.proofs.lemmas.List.{length-replicate}
use Rattle.array_image.specs.Joined.{joined}
use Rattle.image_pieces.specs.Image.{IsStage, front_len, image_of, left_of, page_of, region_of, rest_of}
use Rattle.image_pieces.specs.Pieces.{IsNext, bytes_of}
use Rattle.image_pieces.specs.declared.piece.Piece.{Piece}
use Rattle.image_pieces.specs.declared.piece.Piece.TheVariants.{Zeros}
use Rattle.image_pieces.specs.declared.stages.Stage.{Stage}
use Rattle.image_pieces.specs.declared.stages.Stage.TheVariants.{Header, Region, Pages}
use Rattle.image_pieces.proofs.Images.{joined_head, length-header_bytes, length-pages, next_of, pages_split}
use Rattle.image_pieces.proofs.stages.step.Goals as goal

pub returns-in-Header : goal.returns-in-Header
returns-in-Header g c =
    let shape = c.args.shape.now in
    let said : ℕ → List ℕ = g.P.PageSource.pages c.args.source.now in
    let piece : Piece = c.header_piece.result in
    let out : List ℕ = c.header_piece.new.out in
    let all : shape.loggers ≡ shape.loggers - 0 = omega arith in
    let bytes : image_of shape said ≡ bytes_of c.header_piece.result c.header_piece.new.out ++ joined (region_of shape said) 0 (shape.loggers - 0) = λ i. sym c.header_piece.ensures.bytes i ++ joined (region_of shape said) 0 (all i) in
    let next = next_of shape said c.requires.sized Header (Region 0) piece out tt (omega arith) bytes c.header_piece.ensures.placed (omega (arith, ap length c.header_piece.ensures.bytes, length-header_bytes shape)) in
    (subst (λ (s : Stage). IsNext (rest_of shape said s) piece out (rest_of shape said (Region 0))) (sym c.in-Header.is) next, omega arith)

pub returns-then-logger-shape : goal.returns-then-logger-shape
returns-then-logger-shape g c =
    let shape = c.args.shape.now in
    let said : ℕ → List ℕ = g.P.PageSource.pages c.args.source.now in
    let none : shape.loggers - c.in-Region.logger ≡ 0 = omega (arith, c.if-logger-shape.true) in
    ap (left_of shape said) c.in-Region.is ∙ ap (joined (region_of shape said) c.in-Region.logger) none

pub returns-else-logger-shape : goal.returns-else-logger-shape
returns-else-logger-shape g c =
    let shape = c.args.shape.now in
    let said : ℕ → List ℕ = g.P.PageSource.pages c.args.source.now in
    let logger : ℕ = c.in-Region.logger in
    let out : List ℕ = c.args.out.now in
    let stands : c.in-Region.logger ≤ shape.loggers = subst (IsStage shape) c.in-Region.is c.requires.stage in
    let below : c.in-Region.logger < shape.loggers = omega (arith, stands, c.if-logger-shape.false) in
    let later : shape.loggers - c.in-Region.logger - 1 ≡ shape.loggers - (c.in-Region.logger + 1) = omega arith in
    let all : shape.pages ≡ shape.pages - 0 = omega arith in
    let zeros : List ℕ = replicate (front_len shape) 0 in
    let bytes : left_of shape said (Region logger) ≡ bytes_of (Zeros (front_len shape)) out ++ left_of shape said (Pages logger 0) =
    joined_head (region_of shape said) logger (shape.loggers - logger) (omega (arith, below))
    ∙ append_assoc zeros (joined (page_of shape said logger) 0 shape.pages) (joined (region_of shape said) (logger + 1) (shape.loggers - logger - 1))
    ∙ (λ i. zeros ++ (joined (page_of shape said logger) 0 (all i) ++ joined (region_of shape said) (logger + 1) (later i))) in
    let next : IsNext (rest_of shape said (Region logger)) (Zeros (front_len shape)) out (rest_of shape said (Pages logger 0)) =
    next_of shape said c.requires.sized (Region logger) (Pages logger 0) (Zeros (front_len shape)) out stands (below, omega arith) bytes tt
    (omega (arith, length-replicate {A = ℕ} (front_len shape) 0, shape.in_range.some_numbers)) in (
      subst (λ (p : Stage × Piece). IsNext (rest_of shape said p.0) p.1 out (rest_of shape said (Pages logger 0))) (λ i. (sym c.in-Region.is i, sym c.front_piece.ensures i)) next,
      (below, omega arith),
    )

pub returns-in-Pages : goal.returns-in-Pages
returns-in-Pages g c =
    let shape = c.args.shape.now in
    let said : ℕ → List ℕ = g.P.PageSource.pages c.args.source.now in
    let logger : ℕ = c.in-Pages.logger in
    let page : ℕ = c.in-Pages.page in
    let count : ℕ = c.min-count.result in
    let piece : Piece = c.pages_piece-piece.result in
    let out : List ℕ = c.pages_piece-piece.new.out in
    let stands : IsStage shape (Pages c.in-Pages.logger c.in-Pages.page) = subst (IsStage shape) c.in-Pages.is c.requires.stage in
    let fits : c.in-Pages.page + c.min-count.result ≤ shape.pages = omega (arith, c.min-count.ensures, stands.1) in
    let some : 0 < c.min-count.result = omega (arith, c.min-count.ensures, stands.1) in
    let others : List ℕ = joined (region_of shape said) (logger + 1) (shape.loggers - (logger + 1)) in
    let here : List ℕ = joined (page_of shape said logger) page count in
    let behind : List ℕ = joined (page_of shape said logger) (page + count) (shape.pages - (page + count)) in
    let bytes : left_of shape said (Pages logger page) ≡ bytes_of piece out ++ left_of shape said c.behind_pages.result =
    ap (λ (l : List ℕ). l ++ others) (pages_split shape said c.requires.sized logger page count fits)
    ∙ append_assoc here behind others
    ∙ (λ i. sym c.pages_piece-piece.ensures.bytes i ++ sym (c.behind_pages.ensures.left said) i) in
    let next = next_of shape said c.requires.sized (Pages logger page) c.behind_pages.result piece out stands c.behind_pages.ensures.stage bytes c.pages_piece-piece.ensures.placed
    (omega (arith, ap length c.pages_piece-piece.ensures.bytes, length-pages shape said c.requires.sized logger page count, some)) in
    (subst (λ (s : Stage). IsNext (rest_of shape said s) piece out (rest_of shape said c.behind_pages.result)) (sym c.in-Pages.is) next, c.behind_pages.ensures.stage)

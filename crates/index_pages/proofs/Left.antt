-- What is left of an insertion decides how all of it ends.
use Rattle.std.proofs.Common.{◌≡◌, ℕ, ◌+◌, ◌-◌, ◌<◌, ◌≤◌, inl, inr, List, [], ◌∷◌, length, ◌∙◌, ap, arith}
use Rattle.std.specs.Prelude.{filter}
use Rattle.eaw_face.specs.State.{listed, count_on}
use Rattle.eaw_face.specs.StoreView.{StoreView}
use Rattle.array_shape.specs.declared.shape.Shape.{Shape}
use Rattle.page_store.specs.Fits.{FitAll, IsFirstLacking, held_on, needed_on, is_page_on}
use Rattle.page_store.specs.Index.{Action}
use Rattle.page_store.specs.Inserts.{ActionFits, AllFit, LackPages, LackRoom}

-- if these actions end in some way with this many pages, all actions end that way with all pages
pub record DecidesAll (store : StoreView) (t pages : ℕ) (all : List Action) (rest_pages : ℕ) (rest : List Action) : Type 0 where
  pub fit : AllFit store t rest_pages rest → AllFit store t pages all
  pub lack_pages : LackPages store t rest_pages rest → LackPages store t pages all
  pub lack_room : (g h n : ℕ) → LackRoom store t g h n rest_pages rest → LackRoom store t g h n pages all

pub all_left : (store : StoreView) (t pages : ℕ) (all : List Action) → DecidesAll store t pages all pages all
all_left store t pages all = record { fit = λ f. f; lack_pages = λ f. f; lack_room = λ g h n f. f }

-- an action that fits was done
pub one_done : (store : StoreView) (t pages : ℕ) (all : List Action) (left : ℕ) (action : Action) (rest : List Action) → DecidesAll store t pages all left (action ∷ rest) → ActionFits store t left action
    → DecidesAll store t pages all (left - action.takes) rest
one_done store t pages all left action rest decides fits = record {
  fit = λ f. decides.fit (fits, f);
  lack_pages = λ f. decides.lack_pages (inr (fits, f));
  lack_room = λ g h n f. decides.lack_room g h n (inr (fits, f));
}

-- an action finds too few pages, or too little room
pub pages_lack : (store : StoreView) (t pages : ℕ) (all : List Action) (left : ℕ) (action : Action) (rest : List Action) → DecidesAll store t pages all left (action ∷ rest) → left < action.takes → LackPages store t pages all
pages_lack store t pages all left action rest decides few = decides.lack_pages (inl few)

pub room_lacks : (store : StoreView) (t pages : ℕ) (all : List Action) (left : ℕ) (action : Action) (rest : List Action) (g h n : ℕ) → DecidesAll store t pages all left (action ∷ rest) → action.takes ≤ left
    → IsFirstLacking store t action.pages g h n → LackRoom store t g h n pages all
room_lacks store t pages all left action rest g h n decides enough lacking = decides.lack_room g h n (inl (enough, lacking))

-- room stays the same if numbers have the same in their logs
module _ (old now : StoreView) (t : ℕ) (shape : now.shape ≡ old.shape) (ranges : listed (now.ranges t) ≡ listed (old.ranges t)) where
  held_same : (pages : List ℕ) (g : ℕ) → held_on now t g + needed_on now pages g ≡ held_on old t g + needed_on old pages g
  held_same pages g = ap (λ (s : Shape). count_on s g (listed (now.ranges t)) + length (filter (is_page_on s.loggers g) pages)) shape ∙ ap (λ (l : List (ℕ × ℕ)). count_on old.shape g l + length (filter (is_page_on old.shape.loggers g) pages)) ranges

  pub fits_same : (pages : List ℕ) → FitAll now t pages → FitAll old t pages
  fits_same pages fits g lt = omega (arith, fits g (omega (arith, lt, ap (λ (s : Shape). s.loggers) shape)), held_same pages g, ap (λ (s : Shape). s.entries) shape)

  pub lacks_same : (pages : List ℕ) (g h n : ℕ) → IsFirstLacking now t pages g h n → IsFirstLacking old t pages g h n
  lacks_same pages g h n lacks = record {
    logger = omega (arith, lacks.logger, ap (λ (s : Shape). s.loggers) shape);
    held_is = lacks.held_is ∙ ap (λ (s : Shape). count_on s g (listed (now.ranges t))) shape ∙ ap (λ (l : List (ℕ × ℕ)). count_on old.shape g l) ranges;
    needed_is = lacks.needed_is ∙ ap (λ (s : Shape). length (filter (is_page_on s.loggers g) pages)) shape;
    full = omega (arith, lacks.full, ap (λ (s : Shape). s.entries) shape);
    before = λ k lt. omega (arith, lacks.before k lt, held_same pages k, ap (λ (s : Shape). s.entries) shape);
  }

  pub all_fit_same : (left : ℕ) (actions : List Action) → AllFit now t left actions → AllFit old t left actions
  all_fit_same left [] fit = tt
  all_fit_same left (a ∷ later) fit = ((fit.0.0, fits_same a.pages fit.0.1), all_fit_same (left - a.takes) later fit.1)

  pub lack_pages_same : (left : ℕ) (actions : List Action) → LackPages now t left actions → LackPages old t left actions
  lack_pages_same left [] lack = absurd lack
  lack_pages_same left (a ∷ later) (inl few) = inl few
  lack_pages_same left (a ∷ later) (inr lack) = inr ((lack.0.0, fits_same a.pages lack.0.1), lack_pages_same (left - a.takes) later lack.1)

  pub lack_room_same : (g h n left : ℕ) (actions : List Action) → LackRoom now t g h n left actions → LackRoom old t g h n left actions
  lack_room_same g h n left [] lack = absurd lack
  lack_room_same g h n left (a ∷ later) (inl here) = inl (here.0, lacks_same a.pages g h n here.1)
  lack_room_same g h n left (a ∷ later) (inr lack) = inr ((lack.0.0, fits_same a.pages lack.0.1), lack_room_same g h n (left - a.takes) later lack.1)

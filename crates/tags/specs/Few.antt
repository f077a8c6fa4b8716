-- The two or four ways of a set one by one: what the definitions' tests over a list of two or four lines are. By the
-- laws of "and" and "or".
use Rattle.std.specs.Prelude.{Bool, not, ◌&&◌, ◌||◌, List, [], ◌∷◌, ◌≡◌, refl, length, get_or}
use Rattle.std.proofs.Math.Bool.{and-true, and-false, or-false}
use Rattle.std.proofs.Common.{ap, ◌∙◌}
use Rattle.model.specs.Basics.{any_of}
use Rattle.model.specs.Lines.{holds, empty_line}
use Rattle.model.specs.Records.{none_twice}
use Rattle.model.specs.declared.Line.{Line}
use Rattle.lists.specs.Few.{four}

pub any-two : (p : Line → Bool) (x y : Line) → any_of p (x ∷ y ∷ []) ≡ (p x || p y)
unfolding any_of
any-two p x y = rw (or-false (p y)) refl

pub any-four : (p : Line → Bool) (w x y z : Line) → any_of p (w ∷ x ∷ y ∷ z ∷ []) ≡ (p w || (p x || (p y || p z)))
unfolding any_of
any-four p w x y z = rw (or-false (p z)) refl

-- ---- no line twice
pub twice_two : (x y : Line) → none_twice (x ∷ y ∷ []) ≡ not (x.valid && holds y x.address)
unfolding none_twice any_of
twice_two x y = simp (or-false, and-false, and-true)

pub twice-four : (xs : List Line) → length xs ≡ 4 →
    none_twice xs ≡ (not ((get_or xs 0 empty_line).valid && (holds (get_or xs 1 empty_line) (get_or xs 0 empty_line).address ||
    (holds (get_or xs 2 empty_line) (get_or xs 0 empty_line).address || holds (get_or xs 3 empty_line) (get_or xs 0 empty_line).address))) &&
    (not ((get_or xs 1 empty_line).valid && (holds (get_or xs 2 empty_line) (get_or xs 1 empty_line).address ||
    holds (get_or xs 3 empty_line) (get_or xs 1 empty_line).address)) &&
    not ((get_or xs 2 empty_line).valid && holds (get_or xs 3 empty_line) (get_or xs 2 empty_line).address)))
unfolding none_twice any_of
twice-four xs n = ap none_twice (four empty_line xs n) ∙ simp (or-false, and-false, and-true)

use Rattle.std.proofs.Common.{◌≡◌, ℕ, ◌+◌, ◌*◌, List, [], ◌∷◌, ◌++◌, length, length-append, ap, ◌∙◌, refl, arith}
use Rattle.std.specs.List.{AllByRecursion}
use Rattle.part_api.specs.Streams.{Incoming, Shape, HasFrames, joined, nothing}
use Rattle.part_api.specs.Steps.{IsPiece, all_joined, outputs_of}
use Rattle.part_api.proofs.laws.law_of_pieces.Goals as goal

abbrev Joins : Shape → Type 0
Joins shape =
    (frames more : ℕ) (first second : Incoming) → HasFrames shape frames first → HasFrames shape more second
    → (output : ℕ) → shape.plain (joined first second) output ≡ shape.plain first output ++ shape.plain second output

no_frames : (shape : Shape) → HasFrames shape 0 nothing
no_frames shape = record { input = λ input l. omega arith }

more_frames : (shape : Shape) (frames more : ℕ) (first second : Incoming) → HasFrames shape frames first → HasFrames shape more second
    → HasFrames shape (frames + more) (joined first second)
more_frames shape frames more first second f s = record {
  input = λ input l.
      length-append (first.input input) (second.input input)
      ∙ ap (λ n. n + length (second.input input)) (f.input input l) ∙ ap (λ n. frames * shape.input_frame + n) (s.input input l)
      ∙ grind arith;
}

is_piece : (shape : Shape) (pieces : List Incoming) → AllByRecursion (IsPiece shape) pieces → IsPiece shape (all_joined pieces)
is_piece shape [] h = (0, no_frames shape)
is_piece shape (piece ∷ pieces) h =
    let rest = is_piece shape pieces h.1 in
    (h.0.0 + rest.0, more_frames shape h.0.0 rest.0 piece (all_joined pieces) h.0.1 rest.1)

is_nil : (bytes : List ℕ) → bytes ≡ bytes ++ bytes → bytes ≡ []
is_nil [] e = refl
is_nil (x ∷ xs) e = absurd (omega (arith, ap length e, length-append (x ∷ xs) (x ∷ xs)))

all_pieces : (shape : Shape) → Joins shape → (pieces : List Incoming) → AllByRecursion (IsPiece shape) pieces
    → (output : ℕ) → shape.plain (all_joined pieces) output ≡ outputs_of shape pieces output
all_pieces shape joins [] h output =
    is_nil (shape.plain nothing output) (joins 0 0 nothing nothing (no_frames shape) (no_frames shape) output)
all_pieces shape joins (piece ∷ pieces) h output =
    let rest = is_piece shape pieces h.1 in
    joins h.0.0 rest.0 piece (all_joined pieces) h.0.1 rest.1 output
    ∙ ap (λ bytes. shape.plain piece output ++ bytes) (all_pieces shape joins pieces h.1 output)

pub returns : goal.returns
returns g c = all_pieces (g.P.Part.shape c.args.part.now) c.joins.ensures

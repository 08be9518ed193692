-- Values that stand in full pieces.
use Rattle.std.proofs.Common.{◌≡◌, ℕ, zero, suc, ◌+◌, ◌*◌, ◌<◌, List, [], ◌∷◌, ◌++◌, length, Vec, slice_get, refl, ap, ◌∙◌, arith, append_assoc, length-append}
use Rattle.std.specs.Prelude.{slice_index_or}
use Rattle.std.specs.List.{flat_map}
use Rattle.std.proofs.lemmas.List.Elements.{All-head, All-tail}
use Rattle.play_log.specs.Full.{AreFull, piece_room}

get_front : {T : Type 0} (xs ys : List T) (n : ℕ) → n < length xs → slice_get (xs ++ ys) n ≡ slice_get xs n
get_front [] ys n b = absurd (omega (arith, b))
get_front (a ∷ xs) ys zero b = refl
get_front (a ∷ xs) ys (suc n) b = let c : n < length xs = omega (arith, b) in get_front xs ys n c

get_back : {T : Type 0} (xs ys : List T) (n : ℕ) → slice_get (xs ++ ys) (length xs + n) ≡ slice_get ys n
get_back [] ys n = let e : 0 + n ≡ n = omega arith in ap (slice_get ys) e
get_back (a ∷ xs) ys n =
    let e : length (a ∷ xs) + n ≡ suc (length xs + n) = omega arith in
    ap (slice_get (a ∷ (xs ++ ys))) e ∙ get_back xs ys n

module _ {T A : Type 0} where
  abbrev items_of : List (Vec T A) → List T
  items_of pieces = flat_map (λ piece. piece.items) pieces

  items_length : (pieces : List (Vec T A)) → AreFull pieces → length (items_of pieces) ≡ length pieces * 8192
  items_length [] F = refl
  items_length (p ∷ ps) F =
      let one = All-head (λ (it : Vec T A). length it.items ≡ piece_room) p ps F in
      let more = items_length ps (All-tail (λ (it : Vec T A). length it.items ≡ piece_room) p ps F) in
      length-append p.items (items_of ps) ∙ omega (arith, one, more)

  -- the value in a full piece
  pub in_piece : (pieces : List (Vec T A)) (last : List T) (q r : ℕ) (d : Vec T A) → AreFull pieces → q < length pieces → r < 8192 → slice_get (items_of pieces ++ last) (q * 8192 + r) ≡ slice_get (slice_index_or pieces q d).items r
  in_piece [] last q r d F b c = absurd (omega (arith, b))
  in_piece (p ∷ ps) last zero r d F b c =
      let one = All-head (λ (it : Vec T A). length it.items ≡ piece_room) p ps F in
      let here : 0 * 8192 + r ≡ r = omega arith in
      let within : r < length p.items = omega (arith, c, one) in
      ap (slice_get ((p.items ++ items_of ps) ++ last)) here
      ∙ (ap (λ xs. slice_get xs r) (append_assoc p.items (items_of ps) last) ∙ get_front p.items (items_of ps ++ last) r within)
  in_piece (p ∷ ps) last (suc q) r d F b c =
      let one = All-head (λ (it : Vec T A). length it.items ≡ piece_room) p ps F in
      let there : suc q * 8192 + r ≡ length p.items + (q * 8192 + r) = omega (arith, one) in
      let low : q < length ps = omega (arith, b) in
      ap (slice_get ((p.items ++ items_of ps) ++ last)) there
      ∙ (ap (λ xs. slice_get xs (length p.items + (q * 8192 + r))) (append_assoc p.items (items_of ps) last)
      ∙ (get_back p.items (items_of ps ++ last) (q * 8192 + r) ∙ in_piece ps last q r d (All-tail (λ (it : Vec T A). length it.items ≡ piece_room) p ps F) low c))

  -- one behind them
  pub in_last : (pieces : List (Vec T A)) (last : List T) (n r : ℕ) → AreFull pieces → n ≡ length pieces * 8192 + r → slice_get (items_of pieces ++ last) n ≡ slice_get last r
  in_last pieces last n r F e =
      let many = items_length pieces F in
      let there : n ≡ length (items_of pieces) + r = omega (arith, e, many) in
      ap (slice_get (items_of pieces ++ last)) there ∙ get_back (items_of pieces) last r

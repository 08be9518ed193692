-- The acts and the replies of a row, as lists.
use Rattle.std.proofs.Common.{◌≡◌, suc, subst, refl, All, List, [], ◌∷◌, ◌++◌, length, arith}
use Rattle.std.proofs.lemmas.List.{map-append, length-map}
use Rattle.board.specs.declared.asked.Asked.{Asked}
use Rattle.board.specs.declared.asked.Told.{Told}
use Rattle.board.specs.Rows.{acts_of, replies_of}

pub all_behind : {X : Type 0} (P : X → Type 0) (xs : List X) (x : X) (ys : List X) → xs ≡ x ∷ ys → All P xs → All P ys
all_behind P xs x ys is all = let more = subst (All P) is all in λ k d lt. more (suc k) d (omega (arith, lt))

module _ {S K C : Type 0} where
  pub acts_long : (asked : List (Asked S K C)) → length (acts_of asked) ≡ length asked
  acts_long asked = length-map asked (λ (a : Asked S K C). a.act)

  pub acts_more : (asked : List (Asked S K C)) (a : Asked S K C) → acts_of (asked ++ a ∷ []) ≡ acts_of asked ++ a.act ∷ []
  acts_more asked a = map-append (λ (a : Asked S K C). a.act) asked (a ∷ [])

  pub no_acts : (asked : List (Asked S K C)) → length asked ≡ 0 → acts_of asked ≡ []
  no_acts [] e = refl
  no_acts (a ∷ asked) e = absurd (omega arith)

  pub replies_long : (told : List (Told S K C)) → length (replies_of told) ≡ length told
  replies_long told = length-map told (λ (t : Told S K C). t.reply)

  pub replies_more : (told : List (Told S K C)) (t : Told S K C) → replies_of (told ++ t ∷ []) ≡ replies_of told ++ t.reply ∷ []
  replies_more told t = map-append (λ (t : Told S K C). t.reply) told (t ∷ [])

  pub no_replies : (told : List (Told S K C)) → length told ≡ 0 → replies_of told ≡ []
  no_replies [] e = refl
  no_replies (t ∷ told) e = absurd (omega arith)

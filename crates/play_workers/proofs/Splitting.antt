-- What is known of passes that were just split off, and of what is taken out of lists.
use Rattle.std.proofs.Common.{◌≡◌, ◌+◌, ◌<◌, List, [], ◌∷◌, length, All, sym, ap, subst, ◌∙◌, arith, slice_index_or, remove}
use Rattle.std.proofs.lemmas.List.Elements.{All-head, All-tail}
use Rattle.turnstile.specs.declared.view.View.{View}
use Rattle.turnstile.specs.Turns.{child, parent, rooted}
use Rattle.board.specs.declared.asked.Asked.{Asked}
use Rattle.board.specs.declared.asked.Told.{Told}
use Rattle.board.specs.declared.boards.Board.{Board}
use Rattle.board.specs.declared.pass.BoardPass.{BoardPass}
use Rattle.board.specs.declared.watched.Watched.{Watched}
use Rattle.board.specs.Boards.{IsOf, pass_view}
use Rattle.play_workers.specs.Wholes.{IsRoot}

-- the first of a list, and the others
pub all_first : {X : Type 0} (P : X → Type 0) (xs : List X) (x : X) → 0 < length xs → x ≡ slice_index_or xs 0 x → All P xs → P x × All P (remove xs 0) × (length (remove xs 0) + 1 ≡ length xs)
all_first P [] x lt is all = absurd (omega (arith, lt))
all_first P (y ∷ xs) x lt is all = (subst P (sym is) (All-head P y xs all), All-tail P y xs all, omega arith)

module _ {S K C : Type 0} where
  pub root_new : (b : Board S K C) (p : BoardPass S K C) (o : Watched S K C) → IsOf b p → pass_view p ≡ rooted o → IsRoot b p × ((pass_view p).splits ≡ 0)
  root_new b p o of is = (
    record { pass = of; number = ap (λ (v : View (Watched S K C) (Asked S K C) (Told S K C)). v.number) is; joined = ap (λ (v : View (Watched S K C) (Asked S K C) (Told S K C)). v.joined) is; seen = ap (λ (v : View (Watched S K C) (Asked S K C) (Told S K C)). v.seen) is; mine = ap (λ (v : View (Watched S K C) (Asked S K C) (Told S K C)). v.mine) is },
    ap (λ (v : View (Watched S K C) (Asked S K C) (Told S K C)). v.splits) is,
  )

  pub root_split : (b : Board S K C) (p q : BoardPass S K C) → IsRoot b p → IsOf b q → pass_view q ≡ parent (pass_view p) → IsRoot b q × ((pass_view q).splits ≡ (pass_view p).splits + 1)
  root_split b p q root of is = (
    record {
      pass = of;
      number = ap (λ (v : View (Watched S K C) (Asked S K C) (Told S K C)). v.number) is ∙ root.number;
      joined = ap (λ (v : View (Watched S K C) (Asked S K C) (Told S K C)). v.joined) is ∙ root.joined;
      seen = ap (λ (v : View (Watched S K C) (Asked S K C) (Told S K C)). v.seen) is ∙ root.seen;
      mine = ap (λ (v : View (Watched S K C) (Asked S K C) (Told S K C)). v.mine) is ∙ root.mine;
    },
    ap (λ (v : View (Watched S K C) (Asked S K C) (Told S K C)). v.splits) is,
  )

  pub child_new : (b : Board S K C) (p q : BoardPass S K C) → IsRoot b p → pass_view q ≡ child (pass_view p) → ((pass_view q).number ≡ (pass_view p).splits + 1) × ((pass_view q).seen ≡ []) × ((pass_view q).mine ≡ [])
  child_new b p q root is = (ap (λ (v : View (Watched S K C) (Asked S K C) (Told S K C)). v.number) is, ap (λ (v : View (Watched S K C) (Asked S K C) (Told S K C)). v.seen) is ∙ root.seen, ap (λ (v : View (Watched S K C) (Asked S K C) (Told S K C)). v.mine) is)

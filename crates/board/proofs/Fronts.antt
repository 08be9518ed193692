-- A row of acts, or its front, that was called: the same without the readers, and what the pass then holds and knows.
use Rattle.std.proofs.Common.{◌≡◌, ℕ, suc, ◌+◌, ◌<◌, ◌≤◌, ◌∙◌, sym, ap, subst, refl, Bool, All, List, [], ◌∷◌, ◌++◌, length, map, arith, length-append}
use Rattle.std.proofs.lemmas.List.{map-append, length-map}
use Rattle.il_machine.specs.World.{World}
use Rattle.il_machine.specs.Whole.{Stands}
use Rattle.il_graph.specs.Shown.{kept}
use Rattle.turnstile.specs.declared.entry.Entry.{Entry}
use Rattle.turnstile.specs.declared.view.View.{View}
use Rattle.turnstile.specs.Entries.{Begins, entry}
use Rattle.turnstile.specs.Rows.{MayInRow, HasSameCalls, InRow, no_more, one_more, CalledFront}
use Rattle.state_words.specs.Shown.{Within, States}
use Rattle.state_words.specs.Tokens.{IsReaderOf, known}
use Rattle.graph_acts.specs.Holding.{May, headers_held, clients_held, works_held}
use Rattle.graph_acts.specs.Plain.{Sight}
use Rattle.board.specs.declared.asked.Asked.{Asked}
use Rattle.board.specs.declared.asked.Told.{Told}
use Rattle.board.specs.declared.watched.Watched.{Watched}
use Rattle.board.specs.Asking.{bare, bare_log}
use Rattle.board.specs.Boards.{headers_after, clients_after, works_after}
use Rattle.board.specs.Histories.{Legal, MayAsk, Reaches, graph_of, words_of}
use Rattle.board.specs.Rows.{entries_of, acts_of, replies_of, AreRepliesTo, after_all, StandTogether, FrontIsCalled}
use Rattle.board.proofs.Bare.{bare_snoc}
use Rattle.board.proofs.Calling.{headers_called, clients_called, works_called, reply_called}
use Rattle.board.proofs.LastCall.{last_reader, knows_all}
use Rattle.board.proofs.Chain.{row_ends, row_in_time, row_stands}
use Rattle.board.proofs.Listing.{all_behind}

-- a list of which nothing is shown is empty
pub map_none : {X Y : Type 0} (f : X → Y) (xs : List X) → map f xs ≡ [] → xs ≡ []
map_none f [] e = refl
map_none f (x ∷ xs) e = absurd cc

begins_map : {X Y : Type 0} (f : X → Y) (xs ys : List X) → Begins xs ys → Begins (map f xs) (map f ys)
begins_map f xs ys b = (map f b.0, sym (map-append f xs b.0) ∙ ap (map f) b.1)

pub all_after : {X : Type 0} (P : X → Type 0) (xs ys : List X) → All P (xs ++ ys) → All P ys
all_after P [] ys all = all
all_after P (x ∷ xs) ys all = all_after P xs ys (all_behind P (x ∷ xs ++ ys) x (xs ++ ys) refl all)

-- one that isn't has a last element
pub has_last : {X : Type 0} (xs : List X) → 0 < length xs → (before : List X) × (t : X) × (xs ≡ before ++ t ∷ [])
has_last [] some = absurd (omega arith)
has_last (x ∷ []) some = ([], x, refl)
has_last (x ∷ y ∷ ys) some = let b = has_last (y ∷ ys) (omega arith) in (x ∷ b.0, b.1, ap (λ l. x ∷ l) b.2)

module _ {S K C : Type 0} where
  bare_entries : (p : ℕ) (asked : List (Asked S K C)) (told : List (Told S K C)) → bare_log (entries_of p asked told) ≡ entries_of p (acts_of asked) (replies_of told)
  bare_entries p [] told = refl
  bare_entries p (a ∷ asked) [] = refl
  bare_entries p (a ∷ asked) (t ∷ told) = ap (λ l. entry p a.act t.reply ∷ l) (bare_entries p asked told)

module _ {S K C : Type 0} (see : Sight S K C) (headers : Bool) (first : Watched S K C) where
  abbrev W : Type 0
  W = View (Watched S K C) (Asked S K C) (Told S K C)

  abbrev Row : ℕ → W → List (Asked S K C) → List (Told S K C) → W → Type 0
  Row = InRow (Legal see) (MayAsk see headers) first

  -- what may be asked in a row may be asked with readers
  pub may_row : (p : ℕ) (own : List (Entry (Asked S K C) (Told S K C))) (asked : List (Asked S K C)) → All (λ a. IsReaderOf (words_of first) a.reader) asked
      → MayInRow (May see headers) p (bare_log own) (acts_of asked) → MayInRow (MayAsk see headers first) p own asked
  may_row p own [] of may = tt
  may_row p own (a ∷ asked) of may = (
    (may.0, of 0 a (omega arith)),
    λ told. may_row p (own ++ entry p a told ∷ []) asked (λ k d lt. of (suc k) d (omega (arith, lt)))
        (subst (λ l. MayInRow (May see headers) p l (acts_of asked)) (sym (bare_snoc own (entry p a told))) (may.1 told.reply)),
  )

  -- ---- a row that was called

  row_replied : (place : ℕ) (v w : W) (asked : List (Asked S K C)) (told : List (Told S K C)) → Row place v asked told w → AreRepliesTo (acts_of asked) (replies_of told)
  row_replied _ _ _ _ _ (no_more place v w same) = tt
  row_replied _ _ _ _ _ (one_more place v u w a t asked told c s row) = (
    reply_called see headers first v a.act place t.reply u (record { given = a.reader; back = t.reader; called = c }),
    row_replied (place + 1) u w asked told row,
  )

  row_headers : (place : ℕ) (v w : W) (asked : List (Asked S K C)) (told : List (Told S K C)) → Row place v asked told w
      → headers_held (bare_log w.mine) ≡ after_all headers_after (acts_of asked) (replies_of told) (headers_held (bare_log v.mine))
  row_headers _ _ _ _ _ (no_more place v w same) = ap (λ l. headers_held (bare_log l)) same.2
  row_headers _ _ _ _ _ (one_more place v u w a t asked told c s row) =
      row_headers (place + 1) u w asked told row
      ∙ ap (after_all headers_after (acts_of asked) (replies_of told)) (headers_called see headers first v a.act place t.reply u (record { given = a.reader; back = t.reader; called = c }))

  row_clients : (place : ℕ) (v w : W) (asked : List (Asked S K C)) (told : List (Told S K C)) → Row place v asked told w
      → clients_held see.progress (bare_log w.mine) ≡ after_all (clients_after see.progress) (acts_of asked) (replies_of told) (clients_held see.progress (bare_log v.mine))
  row_clients _ _ _ _ _ (no_more place v w same) = ap (λ l. clients_held see.progress (bare_log l)) same.2
  row_clients _ _ _ _ _ (one_more place v u w a t asked told c s row) =
      row_clients (place + 1) u w asked told row
      ∙ ap (after_all (clients_after see.progress) (acts_of asked) (replies_of told)) (clients_called see headers first v a.act place t.reply u (record { given = a.reader; back = t.reader; called = c }))

  row_works : (place : ℕ) (v w : W) (asked : List (Asked S K C)) (told : List (Told S K C)) → Row place v asked told w
      → works_held (bare_log w.mine) ≡ after_all works_after (acts_of asked) (replies_of told) (works_held (bare_log v.mine))
  row_works _ _ _ _ _ (no_more place v w same) = ap (λ l. works_held (bare_log l)) same.2
  row_works _ _ _ _ _ (one_more place v u w a t asked told c s row) =
      row_works (place + 1) u w asked told row
      ∙ ap (after_all works_after (acts_of asked) (replies_of told)) (works_called see headers first v a.act place t.reply u (record { given = a.reader; back = t.reader; called = c }))

  row_together : (place : ℕ) (v w : W) (asked : List (Asked S K C)) (told : List (Told S K C)) → Row place v asked told w → 0 < length (acts_of asked)
      → StandTogether v (acts_of asked) place (replies_of told) w
  row_together place v w asked told row some =
      let long = length-map asked (λ (a : Asked S K C). a.act) in
      let t = row_stands (Legal see) (MayAsk see headers) first place v w asked told row (omega arith) in record {
        before = bare_log t.0;
        at_place = t.1 ∙ sym (length-map t.0 bare);
        earlier = begins_map bare v.seen t.0 t.2;
        seen = ap bare_log t.3 ∙ (map-append bare t.0 (entries_of v.number asked told) ∙ ap (λ l. bare_log t.0 ++ l) (bare_entries v.number asked told));
      }

  -- the front of a list that was called
  pub front : (place : ℕ) (v w : W) (asked left : List (Asked S K C)) (told : List (Told S K C)) → CalledFront (Legal see) (MayAsk see headers) first place v asked left [] told w
      → FrontIsCalled see headers first v (acts_of asked) place (replies_of told) (acts_of left) w
  front place v w asked left told f = subst (λ (l : List (Told S K C)). FrontIsCalled see headers first v (acts_of asked) place (replies_of l) (acts_of left) w) (sym f.told) (record {
    made = acts_of f.made;
    front = ap acts_of f.asked ∙ map-append (λ (a : Asked S K C). a.act) f.made left;
    called = record { asked = f.made; told = f.given; are_acts = refl; are_replies = refl; row = f.row };
    replied = row_replied place v w f.made f.given f.row;
    headers = row_headers place v w f.made f.given f.row;
    clients = row_clients place v w f.made f.given f.row;
    works = row_works place v w f.made f.given f.row;
    together = row_together place v w f.made f.given f.row;
  })

  -- and of one of which nothing was called
  pub front_none : (place : ℕ) (v w : W) (asked : List (Asked S K C)) → HasSameCalls v w → FrontIsCalled see headers first v (acts_of asked) place [] (acts_of asked) w
  front_none place v w asked same = front place v w asked asked [] (record { made = []; given = []; asked = refl; told = refl; row = no_more place v w same })

  -- the same where some replies came before, of which there were none
  pub front_so : (place : ℕ) (v w : W) (asked left : List (Asked S K C)) (told told' : List (Told S K C)) → replies_of told ≡ [] → CalledFront (Legal see) (MayAsk see headers) first place v asked left told told' w
      → CalledFront (Legal see) (MayAsk see headers) first place v asked left [] told' w
  front_so place v w asked left told told' none f = subst (λ (l : List (Told S K C)). CalledFront (Legal see) (MayAsk see headers) first place v asked left l told' w) (map_none (λ (t : Told S K C). t.reply) told none) f

  pub front_still : (place : ℕ) (v w : W) (asked asked' : List (Asked S K C)) (told told' : List (Told S K C)) → HasSameCalls v w → asked' ≡ asked → told' ≡ told → replies_of told ≡ []
      → FrontIsCalled see headers first v (acts_of asked) place (replies_of told') (acts_of asked') w
  front_still place v w asked asked' told told' same a t none =
      subst (λ (l : List (Told S K C)). FrontIsCalled see headers first v (acts_of asked) place (replies_of l) (acts_of asked') w) (sym (t ∙ map_none (λ (z : Told S K C). z.reply) told none))
      (subst (λ (l : List (Asked S K C)). FrontIsCalled see headers first v (acts_of asked) place [] (acts_of l) w) (sym a) (front_none place v w asked same))

  -- the places are below the most
  pub front_in_time : (place : ℕ) (v w : W) (asked left : List (Asked S K C)) (told : List (Told S K C)) → CalledFront (Legal see) (MayAsk see headers) first place v asked left [] told w → length left < length asked
      → place + length told ≤ 1125899906842624
  front_in_time place v w asked left told f fewer =
      let parts = ap length f.asked in
      let sum = length-append f.made left in
      let given = ap length f.told in
      let early = row_in_time (Legal see) (MayAsk see headers) first place v w f.made f.given f.row (omega arith) in
      omega arith

  -- ---- what is known after it

  -- the reader that came back last is one of the words
  pub reader_last : (place : ℕ) (v w : W) (asked left : List (Asked S K C)) (told before : List (Told S K C)) (t : Told S K C)
      → CalledFront (Legal see) (MayAsk see headers) first place v asked left [] told w → told ≡ before ++ t ∷ [] → IsReaderOf (words_of first) t.reader
  reader_last place v w asked left told before t f is =
      let e = row_ends (Legal see) (MayAsk see headers) first place v w f.made f.given before t f.row (sym f.told ∙ is) in
      last_reader see first w.seen e.0 (entry e.1 e.2 t) e.3 e.4

  -- and knows all that was shown
  pub knows_row : (place : ℕ) (v w : W) (asked left : List (Asked S K C)) (told before : List (Told S K C)) (t : Told S K C) (after : List States)
      → CalledFront (Legal see) (MayAsk see headers) first place v asked left [] told w → told ≡ before ++ t ∷ [] → Within (known t.reader) after
      → (x : World) → Stands (kept see.progress (graph_of first)) x → (R : Reaches see first x w.seen) × Within R.all after
  knows_row place v w asked left told before t after f is into =
      let e = row_ends (Legal see) (MayAsk see headers) first place v w f.made f.given before t f.row (sym f.told ∙ is) in
      knows_all see first w.seen e.0 (entry e.1 e.2 t) after e.3 e.4 into

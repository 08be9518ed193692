-- What looks at components show of the end of a play.
use Rattle.std.proofs.Common.{◌≡◌, ℕ, ◌+◌, ◌<◌, ◌≤◌, List, [], ◌∷◌, ◌++◌, length, take, get_or, true, Option, Some, None, is_some, Result, Ok, Err, inl, inr, refl, sym, subst}
use Rattle.std.proofs.lemmas.List.{take_all}
use Rattle.std.proofs.lemmas.List.Elements.{All-more, All-weaker}
use Rattle.omx_types.specs.declared.error.OmxError.{OmxError}
use Rattle.omx_types.specs.declared.handle.Handle.{Handle}
use Rattle.omx_types.specs.declared.state.State.TheVariants as states
use Rattle.il_machine.specs.declared.answer.Progress.{Progress}
use Rattle.held_things.specs.Held.{Has}
use Rattle.turnstile.specs.declared.entry.Entry.{Entry}
use Rattle.turnstile.specs.Entries.{entry}
use Rattle.graph_acts.specs.declared.act.Act.{Act}
use Rattle.graph_acts.specs.declared.act.Act.TheVariants as asks
use Rattle.graph_acts.specs.declared.act.Reply.{Reply}
use Rattle.graph_acts.specs.declared.act.Reply.TheVariants as replies
use Rattle.board.specs.Boards.{own_calls}
use Rattle.work_signs.specs.declared.seat.Seat.{Seat}
use Rattle.pass_book.specs.declared.book.Book.{Book}
use Rattle.pass_book.specs.Books.{Made}
use Rattle.play_worker.specs.declared.seeing.Seen.{Seen}
use Rattle.play_worker.specs.declared.seeing.Seen.TheVariants.{Loaded, Failed, Other}
use Rattle.play_worker.specs.Ending.{AllLoaded, HasSeen, Shows, Tells}

has_before : {X : Type 0} (xs ys : List X) (x : X) → Has xs x → Has (xs ++ ys) x
has_before [] ys x h = absurd h
has_before (y ∷ xs) ys x h = elim h [ inl e ↦ inl e | inr m ↦ inr (has_before xs ys x m) ]

has_last : {X : Type 0} (xs : List X) (x : X) → Has (xs ++ x ∷ []) x
has_last [] x = inl refl
has_last (y ∷ xs) x = inr (has_last xs x)

pub shows_loaded : (answer : Result (Option Progress) OmxError) (told : Progress) → answer ≡ Ok (Some told) → told.state ≡ Some states.Loaded → Shows answer Loaded
shows_loaded answer told is e = subst (λ (a : Result (Option Progress) OmxError). Shows a Loaded) (sym is) e

pub shows_failed : (answer : Result (Option Progress) OmxError) (told : Progress) → answer ≡ Ok (Some told) → is_some told.error ≡ true → Shows answer Failed
shows_failed answer told is e = subst (λ (a : Result (Option Progress) OmxError). Shows a Failed) (sym is) e

pub shows_other : (answer : Result (Option Progress) OmxError) → Shows answer Other
shows_other (Ok (Some told)) = tt
shows_other (Ok None) = tt
shows_other (Err e) = tt

module _ {S K C : Type 0} where
  abbrev look : ℕ → Handle → Result (Option Progress) OmxError → Entry (Act S K C) (Reply S K C)
  look p h answer = entry p (asks.Progress h) (replies.Progress answer)

  abbrev HasLook : Handle → Progress → List (Entry (Act S K C) (Reply S K C)) × ℕ → Type 0
  HasLook h told calls = Has calls.0 (look calls.1 h (Ok (Some told)))

  -- what a pass has seen stays seen over a look
  seen_still : (x y : Book S K C) (k h : Handle) (answer : Result (Option Progress) OmxError) (s : Seen) → y.number ≡ x.number → Made x (asks.Progress k) (replies.Progress answer) y → HasSeen x h s → HasSeen y h s
  seen_still x y k h answer s same made (told, has, tells) =
      (told, subst (HasLook h told) (λ i. (sym made i, sym same i)) (has_before (own_calls x.pass) (look x.number k answer ∷ []) (look x.number h (Ok (Some told))) has), tells)

  seen_now : (x y : Book S K C) (h : Handle) (told : Progress) (s : Seen) → y.number ≡ x.number → Made x (asks.Progress h) (replies.Progress (Ok (Some told))) y → Tells told s → HasSeen y h s
  seen_now x y h told s same made tells = (told, subst (HasLook h told) (λ i. (sym made i, sym same i)) (has_last (own_calls x.pass) (look x.number h (Ok (Some told)))), tells)

  pub loaded_now : (x y : Book S K C) (h : Handle) (answer : Result (Option Progress) OmxError) → y.number ≡ x.number → Made x (asks.Progress h) (replies.Progress answer) y → Shows answer Loaded → HasSeen y h Loaded
  loaded_now x y h (Ok (Some told)) same made shows = seen_now x y h told Loaded same made shows
  loaded_now x y h (Ok None) same made shows = absurd shows
  loaded_now x y h (Err e) same made shows = absurd shows

  pub failed_now : (x y : Book S K C) (h : Handle) (answer : Result (Option Progress) OmxError) → y.number ≡ x.number → Made x (asks.Progress h) (replies.Progress answer) y → Shows answer Failed → HasSeen y h Failed
  failed_now x y h (Ok (Some told)) same made shows = seen_now x y h told Failed same made shows
  failed_now x y h (Ok None) same made shows = absurd shows
  failed_now x y h (Err e) same made shows = absurd shows

  abbrev IsLoadedIn : Book S K C → Seat → Type 0
  IsLoadedIn k seat = HasSeen k seat.handle Loaded

  -- one more of the components was seen to have told Loaded
  pub loaded_more : (seats : List Seat) (place : ℕ) (seat : Seat) (x y : Book S K C) (answer : Result (Option Progress) OmxError) → place < length seats → seat ≡ get_or seats place seat
      → y.number ≡ x.number → Made x (asks.Progress seat.handle) (replies.Progress answer) y → Shows answer Loaded → AllLoaded (take place seats) x → AllLoaded (take (place + 1) seats) y
  loaded_more seats place seat x y answer lt at same made shows all =
      All-more (IsLoadedIn y) seats place seat lt
      (All-weaker (IsLoadedIn x) (IsLoadedIn y) (λ s. seen_still x y seat.handle s.handle answer Loaded same made) (take place seats) all)
      (subst (IsLoadedIn y) at (loaded_now x y seat.handle answer same made shows))

  -- all were
  pub all_loaded : (seats : List Seat) (k : Book S K C) (place : ℕ) → length seats ≤ place → AllLoaded (take place seats) k → AllLoaded seats k
  all_loaded seats k place le all = subst (λ (l : List Seat). AllLoaded l k) (take_all place seats le) all

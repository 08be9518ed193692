-- The bytes of a link as one header of a work comes to a list of its port.
use Rattle.std.proofs.Common.{◌≡◌, ◌≢◌, ℕ, ◌≤◌, false, List, [], ◌∷◌, ◌++◌, length, drop, Some, option_map, refl, sym, ◌∙◌, ap, append-nil, append_assoc}
use Rattle.std.proofs.lemmas.List.{drop-append-le}
use Rattle.std.proofs.Math.Seq.{drop-append_seam}
use Rattle.il_machine.specs.declared.port.PortKey.{PortKey}
use Rattle.il_machine.specs.declared.header.Spot.{Spot}
use Rattle.il_machine.specs.declared.header.Spot.TheVariants as spots
use Rattle.il_machine.specs.World.{HeaderRecord, Load}
use Rattle.il_machine.specs.Headers.{Seen, seen, load_at, load_of, state_of, put, put_at, loaded, same_key, Once}
use Rattle.il_machine.specs.Stock.{StandsFor, pushed}
use Rattle.machine_laws.proofs.Replacing.{IsReplaced, replaced_put}
use Rattle.stock_laws.proofs.Keys.{same_key-refl}
use Rattle.stock_laws.proofs.Standing.{push_stands}
use Rattle.play_world_laws.specs.View.{is_in}
use Rattle.play_world_laws.specs.Tunnel.{IsOutAt}
use Rattle.play_world_laws.proofs.Same.{stock_of, stands_of, in_append, elsewhere_todo, elsewhere_done}
use Rattle.play_world_laws.proofs.Flowing.{key_not}
use Rattle.play_stream_laws.specs.Flowing.{bytes_on, content_of, contents_of, numbers_on}
use Rattle.play_stream_laws.proofs.Listing.{contents_append, contents_off}

module _ (number : ℕ) (key : PortKey) (spot : Spot) (n : ℕ) (load : Load) (hs : List HeaderRecord) (o : Once hs) (A : IsOutAt number n hs) where
  abbrev ks : List HeaderRecord
  ks = put key spot n (loaded load) hs

  looks : seen ks ≡ (pushed key spot n load (stock_of hs)).headers
  looks = let S : StandsFor (pushed key spot n load (stock_of hs)) ks = push_stands (stock_of hs) hs key spot n load (A.header).state (stands_of hs o) (ap (option_map state_of) A.found) A.out in S.looks

  replaced : IsReplaced n A.header (put_at key spot (loaded load A.header)) hs ks
  replaced = replaced_put key spot (loaded load) (λ _. refl) n hs A.header o A.found

  off : (m : ℕ) → m ≢ n → load_at m ks ≡ load_at m hs
  off m d = ap (option_map load_of) (replaced.others m d)

  here : load_at n ks ≡ Some load
  here = ap (option_map load_of) replaced.here

  none_todo : (k : PortKey) → is_in n ((seen hs).todo k) ≡ false
  none_todo k = elsewhere_todo n hs A.header k o A.found (rw A.owner refl)

  none_done : (k : PortKey) → is_in n ((seen hs).done k) ≡ false
  none_done k = elsewhere_done n hs A.header k o A.found (rw A.owner refl)

  none_on : (output input : PortKey) (ds : List ℕ) → is_in n ds ≡ false → is_in n (numbers_on output input ds hs) ≡ false
  none_on output input ds d = in_append n (ds ++ (seen hs).todo input) ((seen hs).done output) (in_append n ds ((seen hs).todo input) d (none_todo input)) (none_done output)

  put_todo : (s : Spot) (k : PortKey) → same_key k key ≡ false → (pushed key s n load (stock_of hs)).headers.todo k ≡ (seen hs).todo k
  put_todo spots.TodoBack k f = rw f refl
  put_todo spots.TodoFront k f = rw f refl
  put_todo spots.DoneBack k f = refl

  put_done : (s : Spot) (k : PortKey) → same_key k key ≡ false → (pushed key s n load (stock_of hs)).headers.done k ≡ (seen hs).done k
  put_done spots.TodoBack k f = refl
  put_done spots.TodoFront k f = refl
  put_done spots.DoneBack k f = rw f refl

  -- a link of other ports
  pub put_beside : (output input : PortKey) (ds : List ℕ) → output ≢ key → input ≢ key → is_in n ds ≡ false → bytes_on output input ds ks ≡ bytes_on output input ds hs
  put_beside output input ds p q d =
      let t = ap (λ (s : Seen). s.todo input) looks ∙ put_todo spot input (key_not input key q) in
      let s = ap (λ (s : Seen). s.done output) looks ∙ put_done spot output (key_not output key p) in
      ap (contents_of ks) (λ i. (ds ++ t i) ++ s i) ∙ contents_off hs ks n (numbers_on output input ds hs) (none_on output input ds d) off

  -- an output's header comes back
  pub put_ready : (input : PortKey) (ds : List ℕ) → spot ≡ spots.TodoFront → input ≢ key → is_in n ds ≡ false → bytes_on key input ds ks ≡ bytes_on key input ds hs
  put_ready input ds e q d =
      let t : (seen ks).todo input ≡ (seen hs).todo input = ap (λ (s : Seen). s.todo input) looks ∙ put_todo spot input (key_not input key q) in
      let s : (seen ks).done key ≡ (seen hs).done key = ap (λ (s : Seen). s.done key) looks ∙ ap (λ (z : Spot). (pushed key z n load (stock_of hs)).headers.done key) e in
      ap (contents_of ks) (λ i. (ds ++ t i) ++ s i) ∙ contents_off hs ks n (numbers_on key input ds hs) (none_on key input ds d) off

module _ (number n : ℕ) (load : Load) (hs : List HeaderRecord) (o : Once hs) (A : IsOutAt number n hs) (output input : PortKey) (apart : input ≢ output) where
  -- an output's header was filled
  pub put_sent : (ds : List ℕ) → is_in n ds ≡ false → bytes_on output input ds (put output spots.DoneBack n (loaded load) hs) ≡ bytes_on output input ds hs ++ load.content
  put_sent ds d =
      let ks : List HeaderRecord = put output spots.DoneBack n (loaded load) hs in
      let L = looks number output spots.DoneBack n load hs o A in
      let t = ap (λ (s : Seen). s.todo input) L in
      let s : (seen ks).done output ≡ (seen hs).done output ++ n ∷ [] = ap (λ (s : Seen). s.done output) L ∙ rw (same_key-refl output) refl in
      let h = here number output spots.DoneBack n load hs o A in
      let all : List ℕ = numbers_on output input ds hs in
      let one : contents_of ks (n ∷ []) ≡ load.content = append-nil (content_of (load_at n ks)) ∙ ap content_of h in
      ap (contents_of ks) ((λ i. (ds ++ t i) ++ s i) ∙ sym (append_assoc (ds ++ (seen hs).todo input) ((seen hs).done output) (n ∷ [])))
      ∙ (contents_append ks all (n ∷ [])
      ∙ (λ i. contents_off hs ks n all (none_on number output spots.DoneBack n load hs o A output input ds d) (off number output spots.DoneBack n load hs o A) i ++ one i))

  -- what is on its way behind it
  abbrev rest : List HeaderRecord → List ℕ
  rest ls = contents_of ls ((seen hs).todo input ++ (seen hs).done output)

  -- an input's header is spent
  pub put_spent : (m : ℕ) → m ≡ length (content_of (load_at n hs)) → bytes_on output input [] (put input spots.DoneBack n (loaded load) hs) ≡ drop m (bytes_on output input (n ∷ []) hs)
  put_spent m e =
      let ks : List HeaderRecord = put input spots.DoneBack n (loaded load) hs in
      let L = looks number input spots.DoneBack n load hs o A in
      let t = ap (λ (s : Seen). s.todo input) L in
      let s = ap (λ (s : Seen). s.done output) L ∙ put_done number input spots.DoneBack n load hs o A spots.DoneBack output (key_not output input (λ q. apart (sym q))) in
      ap (contents_of ks) (λ i. t i ++ s i)
      ∙ (contents_off hs ks n ((seen hs).todo input ++ (seen hs).done output) (none_on number input spots.DoneBack n load hs o A output input [] refl) (off number input spots.DoneBack n load hs o A)
      ∙ (sym (drop-append_seam (content_of (load_at n hs)) (rest hs)) ∙ ap (λ (j : ℕ). drop j (content_of (load_at n hs) ++ rest hs)) (sym e)))

  -- an input's header comes back with what is left
  pub put_held : (m : ℕ) → m ≤ length (content_of (load_at n hs)) → load.content ≡ drop m (content_of (load_at n hs)) → bytes_on output input [] (put input spots.TodoFront n (loaded load) hs) ≡ drop m (bytes_on output input (n ∷ []) hs)
  put_held m e c =
      let ks : List HeaderRecord = put input spots.TodoFront n (loaded load) hs in
      let L = looks number input spots.TodoFront n load hs o A in
      let t : (seen ks).todo input ≡ n ∷ (seen hs).todo input = ap (λ (s : Seen). s.todo input) L ∙ rw (same_key-refl input) refl in
      let s = ap (λ (s : Seen). s.done output) L ∙ put_done number input spots.TodoFront n load hs o A spots.TodoFront output (key_not output input (λ q. apart (sym q))) in
      let h = here number input spots.TodoFront n load hs o A in
      let old = contents_off hs ks n ((seen hs).todo input ++ (seen hs).done output) (none_on number input spots.TodoFront n load hs o A output input [] refl) (off number input spots.TodoFront n load hs o A) in
      ap (contents_of ks) (λ i. t i ++ s i)
      ∙ ((λ i. content_of (h i) ++ old i)
      ∙ (ap (λ (q : List ℕ). q ++ rest hs) c ∙ sym (drop-append-le m (content_of (load_at n hs)) (rest hs) e)))

-- When two lists of headers show the same link.
use Rattle.std.proofs.Common.{◌≡◌, ◌≢◌, ℕ, suc, Bool, true, false, ◌||◌, nat_eq, List, [], ◌∷◌, ◌++◌, length, map, None, Some, refl, sym, ◌∙◌, ap, subst, ◌+◌, eqb-true, eq-eqb}
use Rattle.std.proofs.lemmas.Bool.{eqb-false}
use Rattle.il_machine.specs.declared.port.PortKey.{PortKey}
use Rattle.il_machine.specs.World.{HeaderRecord}
use Rattle.il_machine.specs.Headers.{seen, numbers, load_at, find_header, is_state, is_owned_by, in_todo, in_done, is_todo, is_done, same_key, Once}
use Rattle.il_machine.specs.Stock.{Stocked, StandsFor}
use Rattle.machine_laws.proofs.Finding.{either, found_number}
use Rattle.stock_laws.proofs.Leaving.{and_false_right}
use Rattle.stock_laws.proofs.Clearing.{is_in as is_listed, is_in_none, is_in_passes}
use Rattle.play_model.specs.Network.{LinkState}
use Rattle.play_world_laws.specs.View.{LinkEnds, filled_of, filled, link_view, is_in}

-- ---- what stands for a flat list

abbrev pub stock_of : List HeaderRecord → Stocked
stock_of hs = record { key = 0; ports = []; headers = seen hs; loads = λ m. load_at m hs; next = 0 }

pub stands_of : (hs : List HeaderRecord) → Once hs → StandsFor (stock_of hs) hs
stands_of hs o = record { looks = refl; loads = λ m load e. e; once = o }

-- ---- lists of numbers

listed_in : (m : ℕ) (ns : List ℕ) → is_in m ns ≡ is_listed m ns
listed_in m [] = refl
listed_in m (n ∷ ns) = ap (λ (b : Bool). nat_eq m n || b) (listed_in m ns)

-- a header's number is in a list just where the header passes its test
pub in_passes : (q : HeaderRecord → Bool) (n : ℕ) (hs : List HeaderRecord) (r : HeaderRecord) → Once hs → find_header n hs ≡ Some r → is_in r.state.number (numbers q hs) ≡ q r
in_passes q n hs r o f = listed_in r.state.number (numbers q hs) ∙ is_in_passes q n hs r o f

pub in_none : (q : HeaderRecord → Bool) (m : ℕ) (hs : List HeaderRecord) → find_header m hs ≡ None → is_in m (numbers q hs) ≡ false
in_none q m hs f = listed_in m (numbers q hs) ∙ is_in_none q m hs f

or_true : (b : Bool) → (b || true) ≡ true
or_true true = refl
or_true false = refl

or_false : (a b : Bool) → a ≡ false → b ≡ false → (a || b) ≡ false
or_false a b e f = rw (e, f) refl

pub in_append : (n : ℕ) (xs ys : List ℕ) → is_in n xs ≡ false → is_in n ys ≡ false → is_in n (xs ++ ys) ≡ false
in_append n [] ys e f = f
in_append n (x ∷ xs) ys e f = either (nat_eq n x)
    (λ t. let b : true ≡ false = rw t at e in absurd cc)
    (λ g. let i : is_in n xs ≡ false = rw g at e in rw g (in_append n xs ys i f))

pub map_agrees : {B : Type 0} (f g : ℕ → B) (xs : List ℕ) → ((m : ℕ) → is_in m xs ≡ true → f m ≡ g m) → map f xs ≡ map g xs
map_agrees f g [] h = refl
map_agrees f g (x ∷ xs) h =
    let a = h x (rw (eq-eqb x x refl) refl) in
    let r = map_agrees f g xs (λ m e. h m (rw e (or_true (nat_eq m x)))) in
    λ i. a i ∷ r i

pub map_push : {A B : Type 0} (f : A → B) (xs : List A) (x : A) → map f (xs ++ x ∷ []) ≡ map f xs ++ f x ∷ []
map_push f [] x = refl
map_push f (y ∷ xs) x = ap (λ zs. f y ∷ zs) (map_push f xs x)

pub length_map : {A B : Type 0} (f : A → B) (xs : List A) → length (map f xs) ≡ length xs
length_map f [] = refl
length_map f (x ∷ xs) = ap suc (length_map f xs)

-- ---- headers that carry the same

module _ (unit : ℕ) (hs ks : List HeaderRecord) where
  -- all headers of the list, but perhaps one that isn't in it
  pub filled_off : (n : ℕ) (xs : List ℕ) → is_in n xs ≡ false → ((m : ℕ) → m ≢ n → load_at m ks ≡ load_at m hs) → map (filled unit ks) xs ≡ map (filled unit hs) xs
  filled_off n xs e h = map_agrees (filled unit ks) (filled unit hs) xs (λ m i. either (nat_eq m n)
      (λ t. let q : m ≡ n = eqb-true _ _ t in let b : is_in m xs ≡ false = subst (λ (k : ℕ). is_in k xs ≡ false) (sym q) e in let c : true ≡ false = sym i ∙ b in absurd cc)
      (λ f. ap (filled_of unit) (h m (eqb-false _ _ f))))

  pub filled_all : (xs : List ℕ) → ((m : ℕ) → load_at m ks ≡ load_at m hs) → map (filled unit ks) xs ≡ map (filled unit hs) xs
  filled_all xs h = map_agrees (filled unit ks) (filled unit hs) xs (λ m i. ap (filled_of unit) (h m))

pub link_same : (x y : LinkState) → x.ready ≡ y.ready → x.sent ≡ y.sent → x.held ≡ y.held → x.spent ≡ y.spent → x.taken ≡ y.taken → x.closed ≡ y.closed → x ≡ y
link_same x y a b c d e f = λ i. record { ready = a i; sent = b i; held = c i; spent = d i; taken = e i; closed = f i }

-- a header isn't in the lists of a port that doesn't own it
pub elsewhere_todo : (n : ℕ) (hs : List HeaderRecord) (r : HeaderRecord) (k : PortKey) → Once hs → find_header n hs ≡ Some r → is_owned_by k r.state.owner ≡ false → is_in n ((seen hs).todo k) ≡ false
elsewhere_todo n hs r k o f e =
    let p : is_state (in_todo k) r ≡ false = rw e (and_false_right (is_todo r.state.queue)) in
    subst (λ (m : ℕ). is_in m ((seen hs).todo k) ≡ false) (found_number n hs r f) (in_passes (is_state (in_todo k)) n hs r o f ∙ p)

pub elsewhere_done : (n : ℕ) (hs : List HeaderRecord) (r : HeaderRecord) (k : PortKey) → Once hs → find_header n hs ≡ Some r → is_owned_by k r.state.owner ≡ false → is_in n ((seen hs).done k) ≡ false
elsewhere_done n hs r k o f e =
    let p : is_state (in_done k) r ≡ false = rw e (and_false_right (is_done r.state.queue)) in
    subst (λ (m : ℕ). is_in m ((seen hs).done k) ≡ false) (found_number n hs r f) (in_passes (is_state (in_done k)) n hs r o f ∙ p)

-- ---- a link that isn't touched

-- One header leaves a list of a port or a work, and comes to a port; the lists of all other ports stay.
pub record IsMoved (a b : PortKey) (n : ℕ) (hs ks : List HeaderRecord) : Type 0 where
  pub once : Once ks
  pub todo : (k : PortKey) → same_key k a ≡ false → same_key k b ≡ false → (seen ks).todo k ≡ (seen hs).todo k
  pub done : (k : PortKey) → same_key k a ≡ false → same_key k b ≡ false → (seen ks).done k ≡ (seen hs).done k
  pub loads : (m : ℕ) → m ≢ n → load_at m ks ≡ load_at m hs
  pub no_todo : (k : PortKey) → same_key k a ≡ false → is_in n ((seen hs).todo k) ≡ false
  pub no_done : (k : PortKey) → same_key k a ≡ false → is_in n ((seen hs).done k) ≡ false

-- the ends of a link are neither of the two ports
pub record IsBeside (a b : PortKey) (y : LinkEnds) : Type 0 where
  pub output_one : same_key y.output a ≡ false
  pub output_other : same_key y.output b ≡ false
  pub input_one : same_key y.input a ≡ false
  pub input_other : same_key y.input b ≡ false

pub beside_same : (a b : PortKey) (n : ℕ) (hs ks : List HeaderRecord) (y : LinkEnds) → IsMoved a b n hs ks → IsBeside a b y → is_in n y.draining ≡ false → link_view y ks ≡ link_view y hs
beside_same a b n hs ks y M B d =
    let sent = M.done y.output B.output_one B.output_other in
    let held = M.todo y.input B.input_one B.input_other in
    link_same (link_view y ks) (link_view y hs)
    (ap (λ (l : List ℕ). length y.filling + length l) (M.todo y.output B.output_one B.output_other))
    (ap (map (filled y.unit ks)) sent ∙ filled_off y.unit hs ks n ((seen hs).done y.output) (M.no_done y.output B.output_one) M.loads)
    (ap (λ (l : List ℕ). map (filled y.unit ks) (y.draining ++ l)) held
    ∙ filled_off y.unit hs ks n (y.draining ++ (seen hs).todo y.input) (in_append n y.draining ((seen hs).todo y.input) d (M.no_todo y.input B.input_one)) M.loads)
    (ap length (M.done y.input B.input_one B.input_other))
    refl refl

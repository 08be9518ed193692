-- The ghost steps of a region's blocks, each by induction over them. Assumes `Logic`.
use Rattle.std.proofs.Common.{◌≡◌, ℕ, zero, suc, ◌+◌, ◌*◌, ◌≤◌, Bool, true, false, List, [], ◌∷◌, ◌++◌, length, refl, sym, ap, subst, arith}
use Rattle.std.proofs.lemmas.Bool.{true≢false}
use Rattle.std.proofs.Math.Nat.{suc-mul, zero-mul}
use seplogic.Ra.Ura.{Ura}
use mir.Syntax.{w8, ty_int}
use base.Fraction.{full_share}
use base.Logic.{SProp, ent, sep, never_e}
use base.Fml.{GName, Fml, ftrue, ffalse, fsep, fex, feq, flt}
use types.Logic.{Logic, sem}
use types.Kit.{‵, ◌⊛◌, later, ◌$◌, ◌∵◌, !, qed, by, move, keep, drop as drops, use0, use1, use2, use3, split, fsplit, fjoin, fpick, fpack, feq_l, feq_i, flt_l, flt_i, await, updating, now, done}
use types.Tokens.{name_new, name_agree, name_set}
use denote.Builtin.{bool}
use denote.RawPtr.Bytes.{bytes, bytes_apart, bytes_whole, bytes-room}
use denote.RawPtr.Room.{room_cut, room_glue, past_bytes}
use denote.RawPtr.{block_ptr}
use denote.Steps.{nothing}
use Rattle.block_region.specs.Regions.{is_home, marked, homes}
use Rattle.block_region.specs.Ownership.{run_owns, room_of, unwritten, goes, entries, ticket}

-- one fewer is at home
pub one_less : (hs : List Bool) (n : ℕ) → is_home hs n ≡ true → homes (marked hs n false) + 1 ≡ homes hs
one_less [] n e = absurd (true≢false (sym e))
one_less (true ∷ hs) zero e = omega arith
one_less (false ∷ hs) zero e = absurd (true≢false (sym e))
one_less (true ∷ hs) (suc n) e = omega (arith, one_less hs n e)
one_less (false ∷ hs) (suc n) e = one_less hs n e

-- one more is at home
pub one_more : (hs : List Bool) (n : ℕ) → n + 1 ≤ length hs → is_home hs n ≡ false → homes (marked hs n true) ≡ homes hs + 1
one_more [] n some e = absurd (omega arith)
one_more (false ∷ hs) zero some e = omega arith
one_more (true ∷ hs) zero some e = absurd (true≢false e)
one_more (true ∷ hs) (suc n) some e = omega (arith, one_more hs n (omega arith) e)
one_more (false ∷ hs) (suc n) some e = one_more hs n (omega arith) e

pub length-marked : (hs : List Bool) (n : ℕ) (x : Bool) → length (marked hs n x) ≡ length hs
length-marked [] n x = refl
length-marked (h ∷ hs) zero x = refl
length-marked (h ∷ hs) (suc n) x = ap suc (length-marked hs n x)

pub homes-most : (hs : List Bool) → homes hs ≤ length hs
homes-most [] = omega arith
homes-most (true ∷ hs) = omega (arith, homes-most hs)
homes-most (false ∷ hs) = omega (arith, homes-most hs)

module _ {M : Type 1} {𝓤 : Ura M} (𝓛 : Logic 𝓤) (size b : ℕ) where
  open 𝓛 use {H}

  abbrev ⟦◌⟧ : Fml → SProp 𝓤
  ⟦ P ⟧ = sem 𝓛 P

  abbrev All : List GName → List Bool → ℕ → Fml
  All gs hs o = entries size gs hs b o

  -- the block i went out: its bytes are at p
  abbrev pub Lent : List GName → List Bool → ℕ → ℕ → ℕ → Fml
  Lent gs hs i o p = fsep (feq Bool (is_home hs i) true) (fsep (All gs (marked hs i false) o) (fsep (ticket gs i false) (room_of size b p)))

  pub lend : (gs : List GName) (hs : List Bool) (i o p : ℕ) → p ≡ o + i * size → i + 1 ≤ length hs → ent 𝓤 (sep 𝓤 ⟦ All gs hs o ⟧ ⟦ ticket gs i true ⟧) (H.⇛ ⟦ Lent gs hs i o p ⟧)
  lend [] hs i o p e some = qed 𝓛 (‵ (All [] hs o) ∷ ‵ ffalse ∷ []) ∵ keep ! (1 ∷ []) $ by ! (never_e 𝓤 _)
  lend (γ ∷ gs) [] i o p e some = absurd (omega arith)
  lend (γ ∷ gs) (true ∷ hs) zero o p e some =
      let at : o ≡ p = omega arith in
      qed 𝓛 (‵ (All (γ ∷ gs) (true ∷ hs) o) ∷ ‵ (goes γ true) ∷ []) ∵ updating ! $ fsplit ! $ fsplit ! $
      -- [what stays; the bytes; the others; what goes]
      move ! (3 ∷ 0 ∷ []) $ name_set ! tt (bool.coded.code false) $ move ! (1 ∷ 3 ∷ []) $ fjoin ! $
      types.Kit.rewrite ! 2 (λ k. ‵ (room_of size b k)) at refl $ move ! (1 ∷ 2 ∷ []) $ fjoin ! $ move ! (1 ∷ 0 ∷ []) $ fjoin ! $
      feq_i ! Bool true true refl $ fjoin ! $ now ! $ done !
  lend (γ ∷ gs) (false ∷ hs) zero o p e some =
      qed 𝓛 (‵ (All (γ ∷ gs) (false ∷ hs) o) ∷ ‵ (goes γ true) ∷ []) ∵ fsplit ! $ move ! (2 ∷ 0 ∷ []) $ name_agree ! bool.coded (λ same. absurd (true≢false same))
  lend (γ ∷ gs) (h ∷ hs) (suc i) o p e some =
      qed 𝓛 (‵ (All (γ ∷ gs) (h ∷ hs) o) ∷ ‵ (ticket gs i true) ∷ []) ∵ updating ! $ fsplit ! $ move ! (1 ∷ 2 ∷ []) $
      use2 𝓛 (later (‵ (Lent gs hs i (o + size) p))) (lend gs hs i (o + size) p (omega (arith, suc-mul i size)) (omega arith)) $ await ! tt $ fsplit ! $ feq_l ! (λ was. fsplit ! $
      -- [the others; what goes and the bytes; this one]
      move ! (2 ∷ 0 ∷ []) $ fjoin ! $ fjoin ! $ feq_i ! Bool (is_home hs i) true was $ fjoin ! $ now ! $ done !)

  -- the block i, which was out, is home
  abbrev pub Back : List GName → List Bool → ℕ → ℕ → Fml
  Back gs hs i o = fsep (flt i (length hs)) (fsep (feq Bool (is_home hs i) false) (fsep (All gs (marked hs i true) o) (ticket gs i true)))

  pub put : (gs : List GName) (hs : List Bool) (i o p : ℕ) → p ≡ o + i * size
      → ent 𝓤 (sep 𝓤 ⟦ All gs hs o ⟧ (sep 𝓤 ⟦ ticket gs i false ⟧ ⟦ room_of size b p ⟧)) (H.⇛ ⟦ Back gs hs i o ⟧)
  put [] hs i o p e = qed 𝓛 (‵ (All [] hs o) ∷ ‵ ffalse ∷ ‵ (room_of size b p) ∷ []) ∵ keep ! (1 ∷ []) $ by ! (never_e 𝓤 _)
  put (γ ∷ gs) [] zero o p e =
      qed 𝓛 (‵ (All (γ ∷ gs) [] o) ∷ ‵ (goes γ false) ∷ ‵ (room_of size b p) ∷ []) ∵ fsplit ! $ fsplit ! $ move ! (1 ∷ []) $ fsplit ! $
      -- [what stays; its room; what would go; the others; what went; the bytes]
      move ! (4 ∷ 0 ∷ []) $ name_agree ! bool.coded (λ same. absurd (true≢false (sym same)))
  put (γ ∷ gs) [] (suc i) o p e =
      qed 𝓛 (‵ (All (γ ∷ gs) [] o) ∷ ‵ (ticket gs i false) ∷ ‵ (room_of size b p) ∷ []) ∵ updating ! $ fsplit ! $ move ! (1 ∷ 2 ∷ 3 ∷ []) $
      use3 𝓛 (later (‵ (Back gs [] i (o + size)))) (put gs [] i (o + size) p (omega (arith, suc-mul i size))) $ await ! tt $ fsplit ! $ flt_l ! (λ none. absurd (omega arith))
  put (γ ∷ gs) (true ∷ hs) zero o p e =
      qed 𝓛 (‵ (All (γ ∷ gs) (true ∷ hs) o) ∷ ‵ (goes γ false) ∷ ‵ (room_of size b p) ∷ []) ∵ fsplit ! $ fsplit ! $ move ! (3 ∷ 0 ∷ []) $ name_agree ! bool.coded (λ same. absurd (true≢false (sym same)))
  put (γ ∷ gs) (false ∷ hs) zero o p e =
      let at : p ≡ o = omega arith in
      qed 𝓛 (‵ (All (γ ∷ gs) (false ∷ hs) o) ∷ ‵ (goes γ false) ∷ ‵ (room_of size b p) ∷ []) ∵ updating ! $ fsplit ! $ move ! (2 ∷ 0 ∷ []) $ name_set ! tt (bool.coded.code true) $
      -- [what goes; what stays; the others; the bytes]
      types.Kit.rewrite ! 3 (λ k. ‵ (room_of size b k)) at refl $ move ! (1 ∷ 3 ∷ []) $ fjoin ! $ move ! (0 ∷ 2 ∷ []) $ fjoin ! $ fjoin ! $
      feq_i ! Bool false false refl $ fjoin ! $ flt_i ! 0 (suc (length hs)) (omega arith) $ fjoin ! $ now ! $ done !
  put (γ ∷ gs) (h ∷ hs) (suc i) o p e =
      qed 𝓛 (‵ (All (γ ∷ gs) (h ∷ hs) o) ∷ ‵ (ticket gs i false) ∷ ‵ (room_of size b p) ∷ []) ∵ updating ! $ fsplit ! $ move ! (1 ∷ 2 ∷ 3 ∷ []) $
      use3 𝓛 (later (‵ (Back gs hs i (o + size)))) (put gs hs i (o + size) p (omega (arith, suc-mul i size))) $ await ! tt $ fsplit ! $ flt_l ! (λ some. fsplit ! $ feq_l ! (λ was. fsplit ! $
      move ! (2 ∷ 0 ∷ []) $ fjoin ! $ fjoin ! $ feq_i ! Bool (is_home hs i) false was $ fjoin ! $ flt_i ! (suc i) (suc (length hs)) (omega arith) $ fjoin ! $ now ! $ done !))

  -- the first block that never was out went out: its room is at p
  abbrev pub Begun : List GName → List Bool → ℕ → ℕ → Fml
  Begun gs hs o p = fsep (All gs (hs ++ false ∷ []) o) (fsep (ticket gs (length hs) false) (unwritten size b p))

  pub begins : (gs : List GName) (hs : List Bool) (o p : ℕ) → p ≡ o + length hs * size → length hs + 1 ≤ length gs → ent 𝓤 ⟦ All gs hs o ⟧ (H.⇛ ⟦ Begun gs hs o p ⟧)
  begins [] hs o p e some = absurd (omega arith)
  begins (γ ∷ gs) [] o p e some =
      let at : o ≡ p = omega arith in
      qed 𝓛 (‵ (All (γ ∷ gs) [] o) ∷ []) ∵ updating ! $ fsplit ! $ fsplit ! $ move ! (1 ∷ []) $ fsplit ! $
      -- [what stays; its room; what goes; the others]
      move ! (2 ∷ 0 ∷ []) $ name_set ! tt (bool.coded.code false) $
      -- [what goes; what stays; its room; the others]
      types.Kit.rewrite ! 2 (λ k. ‵ (unwritten size b k)) at refl $ move ! (0 ∷ 2 ∷ []) $ fjoin ! $ move ! (1 ∷ 2 ∷ []) $ fjoin ! $ fjoin ! $ now ! $ done !
  begins (γ ∷ gs) (h ∷ hs) o p e some =
      qed 𝓛 (‵ (All (γ ∷ gs) (h ∷ hs) o) ∷ []) ∵ updating ! $ fsplit ! $ move ! (1 ∷ []) $
      use1 𝓛 (later (‵ (Begun gs hs (o + size) p))) (begins gs hs (o + size) p (omega (arith, suc-mul (length hs) size)) (omega arith)) $ await ! tt $ fsplit ! $
      -- [the others; what goes and the room; this one]
      move ! (2 ∷ 0 ∷ []) $ fjoin ! $ fjoin ! $ now ! $ done !

  -- room in two pieces, and together again
  cut : (m n o : ℕ) → ent 𝓤 ⟦ unwritten (m + n) b o ⟧ (sep 𝓤 ⟦ unwritten m b o ⟧ ⟦ unwritten n b (o + m) ⟧)
  cut m n o = subst (λ (k : ℕ). ent 𝓤 ⟦ unwritten (m + n) b o ⟧ (sep 𝓤 ⟦ unwritten m b o ⟧ ⟦ unwritten n b k ⟧)) (past_bytes m o) (room_cut 𝓛 (ty_int w8) m n b o)

  glue : (m n o : ℕ) → ent 𝓤 (sep 𝓤 ⟦ unwritten m b o ⟧ ⟦ unwritten n b (o + m) ⟧) ⟦ unwritten (m + n) b o ⟧
  glue m n o = subst (λ (k : ℕ). ent 𝓤 (sep 𝓤 ⟦ unwritten m b o ⟧ ⟦ unwritten n b k ⟧) ⟦ unwritten (m + n) b o ⟧) (past_bytes m o) (room_glue 𝓛 (ty_int w8) m n b o)

  -- one block's room and the others'
  more : (n o : ℕ) → ent 𝓤 (sep 𝓤 ⟦ unwritten size b o ⟧ ⟦ unwritten (n * size) b (o + size) ⟧) ⟦ unwritten (suc n * size) b o ⟧
  more n o =
      let sum : size + n * size ≡ suc n * size = omega (arith, suc-mul n size) in
      subst (λ (k : ℕ). ent 𝓤 (sep 𝓤 ⟦ unwritten size b o ⟧ ⟦ unwritten (n * size) b (o + size) ⟧) ⟦ unwritten k b o ⟧) sum (glue size (n * size) o)

  -- bytes that are written are room
  forgets : (o : ℕ) → ent 𝓤 ⟦ room_of size b o ⟧ ⟦ unwritten size b o ⟧
  forgets o =
      qed 𝓛 (‵ (room_of size b o) ∷ []) ∵ fpick ! (λ xs. fsplit ! $ feq_l ! (λ long. use1 𝓛 (‵ (unwritten (length xs) b o)) (bytes-room 𝓛 xs b o) $
      types.Kit.rewrite ! 0 (λ k. ‵ (unwritten k b o)) long refl $ done !))

  -- with all at home their memory is one room
  pub joined : (gs : List GName) (hs : List Bool) (o : ℕ) → homes hs ≡ length hs → ent 𝓤 ⟦ All gs hs o ⟧ ⟦ unwritten (length gs * size) b o ⟧
  joined [] [] o full =
      qed 𝓛 (‵ ftrue ∷ []) ∵ drops ! $ use0 𝓛 (‵ (unwritten 0 b o)) (𝓛.laws.room_nil (ty_int w8) b o) $ types.Kit.rewrite ! 0 (λ k. ‵ (unwritten k b o)) (sym (zero-mul size)) refl $ done !
  joined [] (h ∷ hs) o full = never_e 𝓤 _
  joined (γ ∷ gs) [] o full =
      qed 𝓛 (‵ (All (γ ∷ gs) [] o) ∷ []) ∵ fsplit ! $ fsplit ! $ drops ! $ fsplit ! $ drops ! $ move ! (1 ∷ []) $
      use1 𝓛 (‵ (unwritten (length gs * size) b (o + size))) (joined gs [] (o + size) refl) $ move ! (1 ∷ 0 ∷ []) $
      use2 𝓛 (‵ (unwritten (suc (length gs) * size) b o)) (more (length gs) o) $ done !
  joined (γ ∷ gs) (false ∷ hs) o full = absurd (omega (arith, homes-most hs))
  joined (γ ∷ gs) (true ∷ hs) o full =
      qed 𝓛 (‵ (All (γ ∷ gs) (true ∷ hs) o) ∷ []) ∵ fsplit ! $ fsplit ! $ drops ! $ use1 𝓛 (‵ (unwritten size b o)) (forgets o) $ move ! (1 ∷ []) $
      use1 𝓛 (‵ (unwritten (length gs * size) b (o + size))) (joined gs hs (o + size) (omega arith)) $ move ! (1 ∷ 0 ∷ []) $
      use2 𝓛 (‵ (unwritten (suc (length gs) * size) b o)) (more (length gs) o) $ done !

  abbrev pub Opened : ℕ → ℕ → Fml
  Opened n o = fex (List GName) (λ gs. fsep (feq ℕ (length gs) n) (All gs [] o))

  -- each block gets a name
  pub opens : (n o : ℕ) → ent 𝓤 ⟦ unwritten (n * size) b o ⟧ (H.⇛ ⟦ Opened n o ⟧)
  opens zero o =
      qed 𝓛 (‵ (unwritten (zero * size) b o) ∷ []) ∵ updating ! $ drops ! $ nothing ! $ feq_i ! ℕ 0 0 refl $ fjoin ! $
      fpack ! (List GName) (λ gs. fsep (feq ℕ (length gs) 0) (All gs [] o)) [] $ now ! $ done !
  opens (suc n) o =
      let sum : suc n * size ≡ size + n * size = omega (arith, suc-mul n size) in
      qed 𝓛 (‵ (unwritten (suc n * size) b o) ∷ []) ∵ updating ! $ types.Kit.rewrite ! 0 (λ k. ‵ (unwritten k b o)) sum refl $
      use1 𝓛 (‵ (unwritten size b o) ⊛ ‵ (unwritten (n * size) b (o + size))) (cut size (n * size) o) $ split ! $ move ! (1 ∷ []) $
      use1 𝓛 (later (‵ (Opened n (o + size)))) (opens n (o + size)) $ await ! tt $ fpick ! (λ gs. fsplit ! $ feq_l ! (λ count.
      -- [the others; the first's room]
      name_new ! tt (bool.coded.code true) (λ γ.
      -- [what goes; what stays; the others; the first's room]
      move ! (1 ∷ 3 ∷ []) $ fjoin ! $ move ! (1 ∷ 0 ∷ []) $ fjoin ! $ fjoin ! $
      feq_i ! ℕ (suc (length gs)) (suc n) (ap suc count) $ fjoin ! $
      fpack ! (List GName) (λ ks. fsep (feq ℕ (length ks) (suc n)) (All ks [] o)) (γ ∷ gs) $ now ! $ done !)))

module _ {M : Type 1} {𝓤 : Ura M} (𝓛 : Logic 𝓤) where
  -- bytes as a run
  pub as_run : (xs : List ℕ) (b o : ℕ) → ent 𝓤 (sem 𝓛 (bytes full_share xs b o)) (sem 𝓛 (run_owns (block_ptr b o) xs))
  as_run xs b o =
      qed 𝓛 (‵ (bytes full_share xs b o) ∷ []) ∵ feq_i ! ℕ (length xs) (length xs) refl $ fjoin ! $
      use1 𝓛 (‵ (run_owns (block_ptr b o) xs)) (bytes_whole 𝓛 full_share (length xs) xs b o) $ done !

  pub as_room : (n : ℕ) (xs : List ℕ) (b o : ℕ) → length xs ≡ n → ent 𝓤 (sem 𝓛 (run_owns (block_ptr b o) xs)) (sem 𝓛 (room_of n b o))
  as_room n xs b o long =
      qed 𝓛 (‵ (run_owns (block_ptr b o) xs) ∷ []) ∵ use1 𝓛 (‵ (fsep (feq ℕ (length xs) (length xs)) (bytes full_share xs b o))) (bytes_apart 𝓛 full_share (length xs) xs b o) $
      fsplit ! $ drops ! $ feq_i ! ℕ (length xs) n long $ fjoin ! $ fpack ! (List ℕ) (λ ys. fsep (feq ℕ (length ys) n) (bytes full_share ys b o)) xs $ done !

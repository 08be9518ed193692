-- An empty `Vec` of bytes is its room and the way back. Assumes `Logic`.
use Rattle.std.proofs.Common.{◌≡◌, ℕ, ◌+◌, ◌-◌, ◌*◌, ◌<◌, List, [], ◌∷◌, length, true, refl, sym, ap, arith, Vec}
use Rattle.std.proofs.lemmas.Bool.{ne_eqb, not_from_false}
use seplogic.Ra.Ura.{Ura}
use mir.Syntax.{w8, ty_int, ty_array}
use mir.Val.{Val}
use base.Logic.{ent, sep, never, id⊢}
use base.Fml.{fsep, feq, fwand, froom}
use types.Logic.{Logic, sem}
use types.Kit.{‵, ◌$◌, ◌∵◌, !, qed, move, frame, assume, show, fsplit, fjoin, feq_i, rewrite, done}
use denote.RattleType.{RattleType}
use denote.Builtin.{u8}
use denote.RawPtr.{Ptr, block_ptr, in_block, in_a_block}
use Rattle.std.specs.declared.alloc.Allocator.{Ghosts}
use Rattle.std.specs.Allocator.{block_with_items}
use Rattle.std_alloc.specs.Vec.Ownership.{owns_if, has_block}
use Rattle.std_alloc.specs.contracts.vec.Vec as V
use Rattle.block_region.specs.Ownership.{room_owns}
use Rattle.block_region.specs.contracts.memory.Sole as Sole
use Rattle.block_region.proofs.Walks.{plainly, one, one_made}

module _ (P : RattleType) (g : Ghosts P.Denot) {M : Type 1} {𝓤 : Ura M} (𝓛 : Logic 𝓤) (v : Vec ℕ P.Denot) (u : Val) where
  pub carve : v.items ≡ [] → 0 < v.cap → ent 𝓤 (sem 𝓛 ((V.the_row u8 P g).own_val v (u ∷ []))) (sep 𝓤 (sem 𝓛 (room_owns v.ptr v.cap)) (sem 𝓛 (Sole.the_own P g (record { ptr = v.ptr; len = v.cap }) (one u ∷ []))))
  carve empty some =
      let live : has_block v.cap ≡ true = not_from_false _ (ne_eqb v.cap 0 (λ e. omega arith)) in
      let bare : v.len ≡ 0 = omega (arith, v.ok.0, ap length empty) in
      let spare : v.cap - v.len ≡ v.cap = omega arith in
      let t = g.dealloc_token v.alloc in
      let Blk = λ (p : Ptr). block_with_items t u8 p v.len v.cap v.items in
      let Whole = (plainly (V.the_row u8 P g ∷ [])).own_val (v, tt) (one u ∷ []) in
      qed 𝓛 (‵ ((V.the_row u8 P g).own_val v (u ∷ [])) ∷ []) ∵ fsplit ! $ move ! (1 ∷ []) $ fsplit ! $ move ! (1 ∷ []) $
      in_a_block ! v.ptr (λ p. in_block p (owns_if (has_block v.cap) (Blk p))) (id⊢ 𝓤 (never 𝓤)) (λ b o at.
      let behind : o + v.len * 1 ≡ o = omega arith in
      rewrite ! 0 (λ y. ‵ (owns_if y (Blk (block_ptr b o)))) live refl $ fsplit ! $ move ! (1 ∷ []) $ fsplit ! $
      -- [the room; the right to free; no elements; the bound; the fields]
      rewrite ! 0 (λ k. ‵ (froom (ty_array (ty_int w8) k) b (o + v.len * 1))) spare refl $ rewrite ! 0 (λ k. ‵ (froom (ty_array (ty_int w8) v.cap) b k)) behind refl $
      rewrite ! 0 (λ p. ‵ (room_owns p v.cap)) (sym at) refl $ frame ! $
      show ! (λ i. sem 𝓛 (fsep (feq (List ℕ) i.vec.items []) (fwand (room_owns v.ptr v.cap) ((plainly (V.the_row u8 P g ∷ [])).own_val (i.vec, tt) (one u ∷ []))))) (record { vec = v }) $
      feq_i ! (List ℕ) v.items [] empty $ frame ! $ assume ! (‵ (room_owns v.ptr v.cap)) $
      rewrite ! 0 (λ p. ‵ (room_owns p v.cap)) at refl $ rewrite ! 0 (λ k. ‵ (froom (ty_array (ty_int w8) v.cap) b k)) (sym behind) refl $
      rewrite ! 0 (λ k. ‵ (froom (ty_array (ty_int w8) k) b (o + v.len * 1))) (sym spare) refl $
      fjoin ! $ move ! (1 ∷ 0 ∷ []) $ fjoin ! $ rewrite ! 0 (λ y. ‵ (owns_if y (Blk (block_ptr b o)))) (sym live) refl $
      rewrite ! 0 (λ p. ‵ (in_block p (owns_if (has_block v.cap) (Blk p)))) (sym at) refl $
      move ! (1 ∷ 0 ∷ []) $ fjoin ! $ move ! (1 ∷ 0 ∷ []) $ fjoin ! $ one_made ! (V.the_row u8 P g) v u $ done !)

-- The turn of a collect: a slot freed, or written back to the home.
use Rattle.std.proofs.Common.{◌≡◌, ℕ, ◌<◌, ◌≤◌, cond, ◌⊎◌, Some, None, Option, sym, refl, ap, ◌∙◌, subst, inl, inr, ⊎_elim, arith}
use Rattle.std.proofs.lemmas.Bool.{cases_eq, lt-ltb}
use Rattle.std.proofs.lemmas.Option.{same_Some}
use mathlib.Core.Path.{subst₂}
use Rattle.interfaces.specs.Homes.{Meaning}
use Rattle.model.specs.declared.body.Body.{Body}
use Rattle.model.specs.declared.slot.Stage.{Stage}
use Rattle.model.specs.declared.slot.Stage.TheVariants.{Live, Retired}
use Rattle.model.specs.declared.slot.Slot.{Slot}
use Rattle.model.specs.declared.slot.Hold.{Hold}
use Rattle.model.specs.declared.slot.Hold.TheVariants.{Unset, OnMaster, OnSlot}
use Rattle.model.specs.declared.slot.Master.{Master}
use Rattle.model.specs.Tools.{put}
use Rattle.model.specs.Worlds.{Entry, Section, World, world, home_bytes, master_entry, with_slots, with_oldest, put_slot, put_master}
use Rattle.model.specs.Calls.{Collect}
use Rattle.model.specs.Versions.{place_of}
use Rattle.model.specs.Steps.{oldest_place, collect_step}
use Rattle.model.specs.History.{Reader, Entries, History, draft}
use Rattle.laws.proofs.Basics.{eq_case, put_case, put_same, HasVersion, takes_within, home_written}
use Rattle.laws.proofs.Invariant.{entry, Ent, MasterOk, Newer, StateAt, SlotOk, draft_slot, SlotWith, Covered, CoverOk, KeptState, HoldOk, base, SectionOk, Inv, Good}
use Rattle.laws.proofs.Carrying.{Carried, carry_hold, new_slots, raise, keep_sections, keep_slots, carry_with, put_slot_case}
use Rattle.laws.proofs.Cases.{collect_cases}
use Rattle.interfaces.specs.Homes as home

-- a master that is no lower
raise_master : (ents : ℕ → Entries) (ms ms' : ℕ → Master) (drafts : ℕ → ℕ → Option Body) (o : ℕ) (sl : Slot) (st : Stage) → (ms sl.number).version ≤ (ms' sl.number).version
    → StateAt ents ms drafts o sl st → StateAt ents ms' drafts o sl st
raise_master ents ms ms' drafts o sl (Retired v t) le k = (k.0, ⊎_elim (λ a. inl (omega arith)) (λ n. inr n) k.1)
raise_master ents ms ms' drafts o sl _ le k = k

module _ (seen : ℕ → ℕ → Entry) (w : World) (h : History) (inv : Inv seen w h) (u q : ℕ) (sl : Slot) (there : w.slot u q ≡ Some sl) where
  -- the slot at that place is this one
  same_slot : (o p : ℕ) (x : Slot) → o ≡ u → p ≡ q → w.slot o p ≡ Some x → sl ≡ x
  same_slot o p x a b e = cc

  -- A retired slot, at most the watermark, is freed.
  module _ (v t : ℕ) (st : sl.stage ≡ Retired v t) (low : t ≤ w.watermark) where
    abbrev gone : ℕ → ℕ → Option Slot
    gone = put_slot w.slot u q None

    stays : (o p : ℕ) (x : Slot) → w.slot o p ≡ Some x → ((o ≡ u) × (p ≡ q) → ⊥) → gone o p ≡ Some x
    stays o p x e n = put_slot_case (λ y. y ≡ Some x) w.slot u q None o p (λ a b. absurd (n (a, b))) (λ _. e)

    was : StateAt h.entries w.master (draft h) u sl (Retired v t)
    was = subst (StateAt h.entries w.master (draft h) u sl) st (inv.slots u q sl there).3

    unheld : (s x : ℕ) → w.watermark ≤ s → (y : Slot) → sl ≡ y → KeptState s x y.stage → ⊥
    unheld s x le y e c =
        let z : KeptState s x (Retired v t) = subst (KeptState s x) st (subst (λ a. KeptState s x a.stage) (sym e) c) in omega arith

    freed_inv : (first : ℕ) → Inv seen (with_oldest (with_slots w gone) u first) h
    freed_inv first =
        new_slots seen inv w.section _ gone h.section
        (λ o p x. put_slot_case (λ y. y ≡ Some x → SlotOk h.entries w.master (draft h) o p x) w.slot u q None o p (λ _ _ e. cc) (λ _ e. inv.slots o p x e))
        (λ o a b e. (let s = inv.drafts o a b e in
        (s.0, stays o s.0 (draft_slot a b) s.1 (λ z. cc (st, ap (λ y. y.stage) (same_slot o s.0 (draft_slot a b) z.0 z.1 s.1))))))
        (λ r e z. ⊎_elim (λ m. inl m) (⊎_elim (λ s. at r e s (cases_eq s.o u) (cases_eq s.p q)) (λ n. inr (inr n))) (inv.cover r e z))
        (keep_slots seen inv gone (λ s v le o p x e c. (x, stays o p x e (λ n. unheld s v le x (same_slot o p x n.0 n.1 e) c), refl, c)))
      where
        behind : (r : ℕ) (e : Entry) → sl.number ≡ r → v ≡ e.version → ((w.master r).version ≡ e.version) ⊎ Newer (h.entries r) e.version w.watermark
        behind r e a b =
            subst₂ (λ x y. ((w.master x).version ≡ y) ⊎ Newer (h.entries x) y w.watermark) a b
            (⊎_elim (λ le. ⊎_elim (λ m. inl m) (λ n. inr (master_entry w sl.number, (inv.masters sl.number).is_entry, omega arith, (inv.masters sl.number).low)) (cases_eq (w.master sl.number).version v))
            (λ n. inr (n.0, n.1, n.2, omega arith)) was.1)

        other : (r : ℕ) (e : Entry) (s : SlotWith w.slot r e.version) → ((s.o ≡ u) × (s.p ≡ q) → ⊥)
            → Covered h.entries w.master w.watermark gone r e
        other r e s n = inr (inl (record { o = s.o; p = s.p; sl = s.sl; there = stays s.o s.p s.sl s.there n; number = s.number; version = s.version }))

        at : (r : ℕ) (e : Entry) (s : SlotWith w.slot r e.version) → ((s.o ≡ u) ⊎ (s.o ≡ u → ⊥)) → ((s.p ≡ q) ⊎ (s.p ≡ q → ⊥))
            → Covered h.entries w.master w.watermark gone r e
        at r e s (inl a) (inl b) =
            let i = same_slot s.o s.p s.sl a b s.there in
            ⊎_elim (λ m. inl m) (λ n. inr (inr n))
            (behind r e (ap (λ x. x.number) i ∙ s.number)
            (let y : HasVersion e.version (Retired v t) = subst (HasVersion e.version) st (subst (λ x. HasVersion e.version x.stage) (sym i) s.version) in y))
        at r e s (inl a) (inr b) = other r e s (λ z. b z.1)
        at r e s (inr a) b = other r e s (λ z. a z.0)

  -- A live slot, at most the watermark, is written back.
  module _ (v t : ℕ) (st : sl.stage ≡ Live v) (low : v ≤ w.watermark) (lt : w.highest < t)
      (home' : Meaning) (bytes : (r : ℕ) → home_bytes home' r ≡ put (home_bytes w.home) sl.number sl.body.bytes r) where
    abbrev old : Slot
    old = record sl { stage = Retired v t }

    abbrev back : ℕ → ℕ → Option Slot
    back = put_slot w.slot u q (Some old)

    abbrev master' : Master
    master' = record { version = v; mark = sl.body.mark }

    abbrev masters' : ℕ → Master
    masters' = put w.master sl.number master'

    is_last : (h.entries sl.number).last ≡ entry v sl.body
    is_last = subst (StateAt h.entries w.master (draft h) u sl) st (inv.slots u q sl there).3

    last_version : (h.entries sl.number).last.version ≡ v
    last_version = ap (λ x. x.version) is_last

    master_up : (r : ℕ) → (w.master r).version ≤ (masters' r).version
    master_up r =
        put_case (λ m. (w.master r).version ≤ m.version) w.master sl.number master' r
        (λ e. subst (λ x. (w.master x).version ≤ v) (sym e) (omega (arith, (inv.ledgers sl.number).newest (master_entry w sl.number) (inv.masters sl.number).is_entry, last_version))) (λ _. omega arith)

    moved : (P : Stage → Type 0) → (P (Live v) → P (Retired v t)) → Carried P w.slot back
    moved P f o p x e k =
        put_slot_case (λ z. (y : Slot) × (z ≡ Some y) × (y.number ≡ x.number) × P y.stage) w.slot u q (Some old) o p
        (λ a b. (let i = same_slot o p x a b e in (old, refl, ap (λ z. z.number) i, f (subst P st (subst (λ z. P z.stage) (sym i) k)))))
        (λ _. (x, e, refl, k))

    back_inv : Inv seen (world home' t w.tick w.watermark masters' w.section w.oldest back) h
    back_inv =
        record {
          ledgers = λ r. raise t (inv.ledgers r) (omega arith);
          watermark_low = omega arith;
          masters = λ r. subst (λ bs. MasterOk (h.entries r) (record { version = (masters' r).version; body = record { bytes = bs; mark = (masters' r).mark } }) w.watermark) (sym (bytes r))
              (eq_case (λ b. MasterOk (h.entries r) (record {
                version = (cond b master' (w.master r)).version;
                body = record { bytes = cond b sl.body.bytes (home_bytes w.home r); mark = (cond b master' (w.master r)).mark };
              }) w.watermark) r sl.number
              (λ e. record { is_entry = subst (λ x. Ent (h.entries x) (entry v sl.body)) (sym e) (inl (sym is_last)); low = low }) (λ _. inv.masters r));
          slots = λ o p x. put_slot_case (λ y. y ≡ Some x → SlotOk h.entries masters' (draft h) o p x) w.slot u q (Some old) o p
              (λ a b e. (let g = inv.slots u q sl there in
              subst (SlotOk h.entries masters' (draft h) o p) (same_Some old x e)
              (omega arith, omega arith, g.2, (inl (sym is_last), inl (subst (λ m. v ≤ m.version) (sym (put_same w.master sl.number master')) (omega arith))))))
              (λ _ e. (let g = inv.slots o p x e in (g.0, g.1, g.2, raise_master h.entries w.master masters' (draft h) o x x.stage (master_up x.number) g.3)));
          drafts = λ o a b e. (let s = inv.drafts o a b e in (
            s.0,
            put_slot_case (λ y. y ≡ Some (draft_slot a b)) w.slot u q (Some old) o s.0
                (λ y z. cc (st, ap (λ i. i.stage) (same_slot o s.0 (draft_slot a b) y z s.1))) (λ _. s.1),
          ));
          cover = cover';
          sections = keep_sections seen inv t masters' back (omega arith) hold';
        }
      where
        cover' : CoverOk h.entries masters' w.watermark back
        cover' r e z =
            ⊎_elim home (⊎_elim (λ s. inr (inl (carry_with w.slot back r e.version (moved (HasVersion e.version) (λ k. k)) s))) (λ n. inr (inr n))) (inv.cover r e z)
          where
            home : (w.master r).version ≡ e.version → Covered h.entries masters' w.watermark back r e
            home m =
                put_case (λ x. (x.version ≡ e.version) ⊎ (SlotWith back r e.version ⊎ Newer (h.entries r) e.version w.watermark)) w.master sl.number master' r
                (λ a. ⊎_elim (λ i. inl i) (λ n. inr (inr (subst (λ y. Newer (h.entries y) e.version w.watermark) (sym a)
                ((h.entries sl.number).last, inl refl, (let le = (inv.ledgers sl.number).newest e (subst (λ y. Ent (h.entries y) e) a z) in omega (arith, last_version)), omega (arith, last_version))))) (cases_eq v e.version))
                (λ _. inl m)

        hold' : (o : ℕ) (s : Section) (rd : Reader) → SectionOk seen (base w h) o s rd
            → (r x : ℕ) (y : Hold) → x ≡ (seen rd.opened_at r).version → HoldOk w.master w.slot s.opening r x y → HoldOk masters' back s.opening r x y
        hold' o s rd ok r x Unset i k = k
        hold' o s rd ok r x (OnSlot a b) i k = carry_hold w.master w.slot back s.opening r x (moved (KeptState s.opening x) (λ z. (z, omega arith))) (OnSlot a b) k
        hold' o s rd ok r x (OnMaster a) i k = (
          k.0,
          put_case (λ m. m.version ≡ x) w.master sl.number master' r
              (λ e. (let ent : Ent (h.entries r) (h.entries sl.number).last = subst (λ y. Ent (h.entries y) (h.entries sl.number).last) (sym e) (inl refl) in
              let up : (seen rd.opened_at r).version ≤ v =
              subst (λ y. (seen rd.opened_at r).version ≤ y) last_version ((inv.ledgers sl.number).newest (seen rd.opened_at r) (subst (λ y. Ent (h.entries y) (seen rd.opened_at r)) e (ok.seen_entry r))) in
              ⊎_elim (λ c. omega (arith, last_version)) (λ c. omega (arith, last_version)) (ok.seen_last r (h.entries sl.number).last ent)))
              (λ _. k.1),
        )

module _ (seen : ℕ → ℕ → Entry) (w : World) (h : History) (inv : Inv seen w h) where
  -- the master is one of the 64
  master_below : (sl : Slot) (m : Master) → sl.number < 64 → put w.master sl.number m ≡ put_master w.master sl.number m
  master_below sl m lt = ap (λ b. cond b (put w.master sl.number m) w.master) (sym (lt-ltb sl.number 64 lt))

  pub collect_good : (k s u : ℕ) → Good seen w.highest s k h (Collect u) (collect_step w s u)
  collect_good k s u =
      collect_cases (Good seen w.highest s k h (Collect u)) w (λ _ _. inv) s u (λ _ _. inv)
      (λ sl e v t q low _. freed_inv seen w h inv u (oldest_place w u) sl e v t q low (place_of (w.oldest u) 1))
      (λ sl e v q low f next.
      subst (λ m. Inv seen (world (home.written w.home sl.number sl.body.bytes) s w.tick w.watermark m w.section w.oldest
      (put_slot w.slot u (oldest_place w u) (Some (record sl { stage = Retired v s })))) h)
      (master_below sl (record { version = v; mark = sl.body.mark }) (inv.slots u (oldest_place w u) sl e).2)
      (back_inv seen w h inv u (oldest_place w u) sl e v s q low next (home.written w.home sl.number sl.body.bytes)
      (home_written w.home sl.number sl.body.bytes (takes_within w.home sl.number f))))

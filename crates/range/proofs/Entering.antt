-- Entries, one after the other, and what they leave. Assumes nothing.
use Rattle.std.proofs.Common.{◌≡◌, ℕ, ◌<◌, true, List, get_or, sym, ap, ◌∙◌, subst, inl, inr, arith}
use Rattle.std.proofs.lemmas.Bool.{both_ways, lt-ltb, eq-eqb, cases_eq, cases_Bool}
use Rattle.masks.specs.Masks.{has, within, without, Parted}
use Rattle.masks.proofs.Masks.{has-zero, within_has}
use Rattle.masks.proofs.Subsets.{and-within-r, apart_from, within_all, within-le, within-or-r, within-trans}
use Rattle.model.specs.Board.{Board}
use Rattle.model.specs.Box.{Box, In, Inside, Kept, Live, Narrower, cand, hi, lo}
use Rattle.model.specs.Entries.{Entry, bar, claim, cut, keeps, limit, narrow, placed}
use Rattle.model.specs.Layout.{Layout, On, set_of, slot_of}
use Rattle.model.proofs.Boxes.{dead-cand, live-true}
use Rattle.model.proofs.Cuts.{bar-at, claim-at, limit-at}
use Rattle.model.proofs.Entries.{entry-keeps, entry-narrows}
use Rattle.model.proofs.Narrowing.{narrow_cut}
use Rattle.model.proofs.Tight.{ordering}
use Rattle.board.specs.Model.{board, model}
use Rattle.board.specs.declared.domains.Domains.{Domains}
use Rattle.board.proofs.Shapes.{is-kept}
use Rattle.covering.proofs.Singles.{part-only, part-out, less-has, less-not, less-only}
use Rattle.range.specs.Entered.{Confined, Entered, Limited, Obedient, Step}

-- a stored box, by the name of its board
pub kept_on : (d : Domains) (bd : Board) → board d ≡ bd → Kept bd (model d)
kept_on d bd e = subst (λ (x : Board). Kept x (model d)) e (is-kept d)

module _ (bd : Board) (some : 0 < bd.sensors) where
  pub live-narrower : (a b : Box) → Live bd b → Inside bd b a → Narrower bd b a
  live-narrower a b l (inl d) = absurd (both_ways _ d (live-true bd some b l))
  live-narrower a b l (inr n) = n

  -- a box around a live box is live
  pub wider : (a b : Box) → Kept bd a → Live bd b → Inside bd b a → Live bd a
  wider a b (inr k) l n = k
  wider a b (inl d) l n =
      let w = live-narrower a b l n in
      absurd (both_ways _ (l.some 0 some)
      (eq-eqb (cand b 0) 0 (omega (arith, within-le (cand b 0) (cand a 0) (w.fewer 0 some), ap (λ (x : Box). cand x 0) d ∙ dead-cand bd some))))

  pub step-none : (Obeys : Layout → Type 0) (a : Box) → Kept bd a → Step bd Obeys a a
  step-none Obeys a k = record { inside = (ordering bd some).itself a k; keeps = λ y o i q. i }

  pub step-entry : (Obeys : Layout → Type 0) (e : Entry) (a b : Box) → Kept bd a → b ≡ narrow bd e a
      → ((y : Layout) → On bd y → In bd y a → Obeys y → keeps e y ≡ true) → Step bd Obeys a b
  step-entry Obeys e a b k q f = record {
    inside = subst (λ (x : Box). Inside bd x a) (sym q) ((entry-narrows bd some e).shrinks a k);
    keeps = λ y o i h. subst (λ (x : Box). In bd y x) (sym q) (entry-keeps bd some e a y k o i (λ _. f y o i h));
  }

  pub step-join : (P Q R : Layout → Type 0) (a b c : Box) → Kept bd a → Kept bd b → Kept bd c → ((y : Layout) → R y → P y) → ((y : Layout) → R y → Q y)
      → Step bd P a b → Step bd Q b c → Step bd R a c
  step-join P Q R a b c ka kb kc f g p q = record {
    inside = (ordering bd some).chain c b a kc kb ka q.inside p.inside;
    keeps = λ y o i h. q.keeps y o (p.keeps y o i (f y h)) (g y h);
  }

  -- what an entry leaves of a live box
  pub after : (e : Entry) (a b : Box) → placed bd e ≡ true → Kept bd a → b ≡ narrow bd e a → Live bd b → Live bd a × (b ≡ cut e a)
  after e a b p k q l =
      let w = narrow_cut bd some e a p k (subst (Live bd) q l) in
      (w.0, q ∙ w.1)

  pub limit-leaves : (i m : ℕ) (a b : Box) → i < bd.sensors → Kept bd a → b ≡ narrow bd (limit i m) a → Live bd b → within (cand b i) m ≡ true
  limit-leaves i m a b h k q l =
      let w = after (limit i m) a b (lt-ltb i bd.sensors h) k q l in
      ap (λ (x : ℕ). within x m) (ap (λ (x : Box). cand x i) w.1 ∙ limit-at bd some a w.0 i m h) ∙ and-within-r (cand a i) m

  pub claim-leaves : (j m : ℕ) (a b : Box) → j < bd.sets → Kept bd a → b ≡ narrow bd (claim j m) a → Live bd b → within m (lo b j) ≡ true
  claim-leaves j m a b h k q l =
      let w = after (claim j m) a b (lt-ltb j bd.sets h) k q l in
      ap (within m) (ap (λ (x : Box). lo x j) w.1 ∙ claim-at bd some a w.0 j m h) ∙ within-or-r (lo a j) m

  pub bar-leaves : (j m : ℕ) (a b : Box) → j < bd.sets → Kept bd a → b ≡ narrow bd (bar j (without (hi a j) m)) a → Live bd b → within (hi b j) m ≡ true
  bar-leaves j m a b h k q l =
      let w = after (bar j (without (hi a j) m)) a b (lt-ltb j bd.sets h) k q l in
      ap (λ (x : ℕ). within x m) (ap (λ (x : Box). hi x j) w.1 ∙ bar-at bd some a w.0 j (without (hi a j) m) h)
      ∙ within_all _ m (λ v e. elim (cases_Bool (has m v)) [
        | inl t ↦ t
        | inr f ↦ (let p = less-only (hi a j) (without (hi a j) m) v e in absurd (both_ways _ p.1 (less-has (hi a j) m v p.0 f)))
      ])

  -- ---- set j confined to a mask

  pub confined : (j m : ℕ) (a b : Box) → Kept bd a → b ≡ narrow bd (bar j (without (hi a j) m)) a → Confined bd j m a b
  unfolding keeps
  confined j m a b k q = record {
    step = step-entry (λ y. within (set_of y j) m ≡ true) (bar j (without (hi a j) m)) a b k q
        (λ y o i h. apart_from (set_of y j) _ (λ v e. less-not (hi a j) m v (within_has (set_of y j) m h v e)));
    high = λ h l. bar-leaves j m a b h k q l;
  }

  -- ---- limits, one by one

  abbrev pub Bounded : ℕ → List ℕ → Layout → Type 0
  Bounded sensors keep y = (i : ℕ) → has sensors i ≡ true → has (get_or keep i 0) (slot_of y i) ≡ true

  pub limited-start : (sensors : ℕ) (keep : List ℕ) (a : Box) → Kept bd a → Limited bd sensors keep sensors a a
  limited-start sensors keep a k = record {
    rest = λ i e. e;
    step = step-none (Bounded sensors keep) a k;
    slots = λ l i h e f. absurd (both_ways _ f e);
  }

  pub limited-more : (sensors : ℕ) (keep : List ℕ) (a b c : Box) {left i rest : ℕ} → Parted left i rest → Kept bd a → Kept bd b → Kept bd c
      → Limited bd sensors keep left a b → c ≡ narrow bd (limit i (get_or keep i 0)) b → Limited bd sensors keep rest a c
  unfolding keeps
  limited-more sensors keep a b c {left} {i} p ka kb kc h q =
      let one = step-entry (Bounded sensors keep) (limit i (get_or keep i 0)) b c kb q (λ y o n t. t i (h.rest i p.member)) in
      record {
        rest = λ k t. h.rest k (part-only p k t);
        step = step-join (Bounded sensors keep) (Bounded sensors keep) (Bounded sensors keep) a b c ka kb kc (λ y t. t) (λ y t. t) h.step one;
        slots = λ l k lk s f. elim (cases_eq k i) [
          | inl z ↦ subst (λ (x : ℕ). within (cand c x) (get_or keep x 0) ≡ true) (sym z) (limit-leaves i (get_or keep i 0) b c (subst (λ (x : ℕ). x < bd.sensors) z lk) kb q l)
          | inr ne ↦ within-trans (cand c k) (cand b k) (get_or keep k 0) ((live-narrower b c l one.inside).fewer k lk)
              (h.slots (wider b c kb l one.inside) k lk s (part-out p k ne f))
        ];
      }

  -- ---- all entries of a run

  module _ (s t sensors : ℕ) (keep : List ℕ) (bound wide sure : ℕ) (a b c d e f : Box)
      (ka : Kept bd a) (kb : Kept bd b) (kc : Kept bd c) (kd : Kept bd d) (ke : Kept bd e) (kf : Kept bd f)
      (limits : Limited bd sensors keep 0 a b) (s-cut : Confined bd s sensors b c) (s-raised : d ≡ narrow bd (claim s bound) c)
      (t-cut : Confined bd t wide d e) (t-raised : f ≡ narrow bd (claim t sure) e) where
    abbrev All-obeyed : Layout → Type 0
    All-obeyed = Obedient s t sensors keep bound wide sure

    abbrev chain : (x y z : Box) → Kept bd x → Kept bd y → Kept bd z → Inside bd x y → Inside bd y z → Inside bd x z
    chain = (ordering bd some).chain

    cd : Step bd All-obeyed c d
    unfolding keeps
    cd = step-entry All-obeyed (claim s bound) c d kc s-raised (λ y o i q. q.s_low)

    ef : Step bd All-obeyed e f
    unfolding keeps
    ef = step-entry All-obeyed (claim t sure) e f ke t-raised (λ y o i q. q.t_low)

    fd : Inside bd f d
    fd = chain f e d kf ke kd ef.inside t-cut.step.inside

    fc : Inside bd f c
    fc = chain f d c kf kd kc fd cd.inside

    fb : Inside bd f b
    fb = chain f c b kf kc kb fc s-cut.step.inside

    pub entered : Entered bd s t sensors keep bound wide sure a f
    entered = record {
      step = record {
        inside = chain f b a kf kb ka fb limits.step.inside;
        keeps = λ y o i q. ef.keeps y o (t-cut.step.keeps y o (cd.keeps y o (s-cut.step.keeps y o (limits.step.keeps y o i q.slots) q.s_high) q) q.t_high) q;
      };
      slots = λ l i h z. within-trans (cand f i) (cand b i) (get_or keep i 0) ((live-narrower b f l fb).fewer i h)
          (limits.slots (wider b f kb l fb) i h z (has-zero i));
      s_high = λ h l. within-trans (hi f s) (hi c s) sensors ((live-narrower c f l fc).lower s h) (s-cut.high h (wider c f kc l fc));
      s_low = λ h l. within-trans bound (lo d s) (lo f s) (claim-leaves s bound c d h kc s-raised (wider d f kd l fd)) ((live-narrower d f l fd).higher s h);
      t_high = λ h l. within-trans (hi f t) (hi e t) wide ((live-narrower e f l ef.inside).lower t h) (t-cut.high h (wider e f ke l ef.inside));
      t_low = λ h l. claim-leaves t sure e f h ke t-raised l;
    }

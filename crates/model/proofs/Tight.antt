-- The planner's boxes: their order, their tight boxes and their settled boxes. Assumes nothing.
use Rattle.std.proofs.Common.{◌≡◌, ◌<◌, Bool, true, List, [], ◌∷◌, refl, inl, inr}
use Rattle.std.specs.List.{AllByRecursion}
use Rattle.std.proofs.lemmas.Bool.{both_ways}
use Rattle.model.specs.Board.{Board}
use Rattle.model.specs.Box.{Box, Choice, Inside, Kept, choice, dead, size, uses}
use Rattle.model.specs.Calls.{Mem}
use Rattle.model.specs.Laws.{InsideStands, Narrows, Only, Ordering, TightStands, Tightness}
use Rattle.model.specs.Layout.{Layout, On}
use Rattle.model.specs.Settled.{Settling, SettlingStands}
use Rattle.model.specs.Tight.{hull, layouts, tight}
use Rattle.model.proofs.Boxes.{dead-choice, lay-mem, live-choice, mem-lay, space}
use Rattle.model.proofs.Order.{Fewer, fewer-inside, fewer-one, inside-fewer, ordered}
use Rattle.model.proofs.Rounds.{Runs, settled_is}
use Rattle.model.proofs.Space.{some-tight, tight-again, tight-dies, tight-good, tight-inside, tight-keeps, tight-mono, tight-some, tight-stays}

module _ (bd : Board) (some : 0 < bd.sensors) where
  pub no-choice : (b : Box) → Kept bd b → ((c : Choice) → choice bd b c ≡ true → ⊥) → b ≡ dead bd
  no-choice b (inl e) f = e
  no-choice b (inr l) f = absurd (f _ (live-choice bd some b l))

  pub to : (a b : Box) → Kept bd a → Kept bd b → Fewer bd some a b → Inside bd a b
  to = fewer-inside bd some

  pub from : (a b : Box) → Kept bd a → Kept bd b → Inside bd a b → Fewer bd some a b
  from = inside-fewer bd some

  -- a run that shrinks leaves the dead box
  pub dead-stays : (r : Box → Box) → Narrows bd r → r (dead bd) ≡ dead bd
  dead-stays r n = no-choice _ (n.kept (dead bd) (inl refl)) (λ c e.
      both_ways _ (dead-choice bd some (dead bd) refl c) (from _ (dead bd) (n.kept (dead bd) (inl refl)) (inl refl) (n.shrinks (dead bd) (inl refl)) c e))

  pub ordering : Ordering bd
  ordering = record {
    itself = λ a k. to a a k k (λ c e. e);
    chain = λ a b c ka kb kc p q. to a c ka kc (λ x e. from b c kb kc q x (from a b ka kb p x e));
    one = λ a b ka kb p q. fewer-one bd some a b ka kb (from a b ka kb p) (from b a kb ka q);
    choices = from;
    from_choices = to;
  }

  module _ (holds : Layout → Bool) where
    pub tightness : Tightness bd holds
    unfolding tight
    tightness =
        let sp = space bd some in
        let kept : (b : Box) → Kept bd b → Kept bd (tight bd holds b) = tight-good (choice bd) (uses bd) (Kept bd) (On bd) (layouts bd) (hull bd) sp holds in
        let only : (b : Box) (x : Layout) → Only bd b x → (y : Layout) → Mem y (layouts bd b) → y ≡ x =
        λ b x f y m. let h = lay-mem bd some b y m in f.alone y h.0 h.1 in
        record {
          laws = record {
            kept = kept;
            shrinks = λ b k. to _ b (kept b k) k (tight-inside (choice bd) (uses bd) (Kept bd) (On bd) (layouts bd) (hull bd) sp holds b k);
            keeps_supports = λ b k x o i h. (lay-mem bd some _ x (tight-keeps (choice bd) (uses bd) (Kept bd) (On bd) (layouts bd) (hull bd) sp holds b k x (mem-lay bd some b x o i) h)).1;
            monotone = λ a b ka kb i. to _ _ (kept a ka) (kept b kb) (tight-mono (choice bd) (uses bd) (Kept bd) (On bd) (layouts bd) (hull bd) sp holds a b ka kb (from a b ka kb i));
            stays = λ b k x f h. tight-stays (choice bd) (uses bd) (Kept bd) (On bd) (layouts bd) (hull bd) sp holds b k x (mem-lay bd some b x f.on f.inside) (only b x f) h;
            dies = λ b k x f h. no-choice _ (kept b k) (tight-dies (choice bd) (uses bd) (Kept bd) (On bd) (layouts bd) (hull bd) sp holds b k x (only b x f) h);
          };
          rests = tight-again (choice bd) (uses bd) (Kept bd) (On bd) (layouts bd) (hull bd) sp holds;
          used = λ b k c e.
              let h = tight-some (choice bd) (uses bd) (Kept bd) (On bd) (layouts bd) (hull bd) sp holds b k c e in
              let m = lay-mem bd some b h.0 h.1 in
              (h.0, m.0, m.1, h.2, h.3);
          uses_all = λ b k c s. some-tight (choice bd) (uses bd) (Kept bd) (On bd) (layouts bd) (hull bd) sp holds b k c s.0 (mem-lay bd some b s.0 s.1 s.2) s.3 s.4;
        }

  pub runs_of : (r : Box → Box) → Narrows bd r → Runs (Kept bd) (Fewer bd some) r
  runs_of r n = record {
    good = n.kept;
    shrinks = λ b k. from (r b) b (n.kept b k) k (n.shrinks b k);
    mono = λ a b ka kb f. from (r a) (r b) (n.kept a ka) (n.kept b kb) (n.monotone a b ka kb (to a b ka kb f));
  }

  pub all_runs : (rs : List (Box → Box)) → AllByRecursion (Narrows bd) rs → AllByRecursion (Runs (Kept bd) (Fewer bd some)) rs
  all_runs [] h = tt
  all_runs (r ∷ rs) h = (runs_of r h.0, all_runs rs h.1)

  pub settling : Settling bd
  settling = record {
    made = λ runs h b k.
        let s = settled_is (Kept bd) (Fewer bd some) (size bd) (ordered bd some) runs (all_runs runs h) b k in
        record {
          kept = s.good;
          inside = to _ b s.good k s.inside;
          still = s.still;
          largest = λ t kt i f. to t _ kt s.good (s.largest t kt (from t b kt k i) f);
        };
    one = λ runs b s t p q.
        ordering.one s t p.kept q.kept (q.largest s p.kept p.inside p.still) (p.largest t q.kept q.inside q.still);
  }

pub tight-stands : TightStands
tight-stands bd some holds = tightness bd some holds

pub inside-stands : InsideStands
inside-stands = ordering

pub settling-stands : SettlingStands
settling-stands = settling

-- Reading on by a window.
use Rattle.std.proofs.Common.{◌≡◌, ◌<◌, ◌≤◌, ◌-◌, ◌+◌, inl, inr, ℕ, Bool, true, false, cond, List, ◌++◌, length, append_assoc, length-append, Some, None, refl, sym, ap, ◌∙◌, subst, arith}
use Rattle.std.specs.declared.option.Option.{Option}
use Rattle.std.specs.Io.KnownBytes.{Consumes, Keeps, prepend_known}
use Rattle.outside.specs.Causes.{Rose, SourceState}
use Rattle.audit_readers.specs.Windows.{Window, Fills, FillsNot, FillsUp, FailsToFill, Stays, KnowsEnd, ahead, look_ahead}

-- ---- what follows stays

pub keeps_same : (o : Option (List ℕ)) → Keeps o o
keeps_same None = tt
keeps_same (Some xs) = refl

pub keeps_on : (o p q : Option (List ℕ)) → Keeps o p → Keeps p q → Keeps o q
keeps_on None p q a b = tt
keeps_on (Some xs) None q a b = absurd a
keeps_on (Some xs) (Some ys) None a b = absurd b
keeps_on (Some xs) (Some ys) (Some zs) a b = b ∙ a

filled_ahead : (w v given : List ℕ) (l m : Option (List ℕ)) → Consumes l m given → v ≡ w ++ given → Keeps (prepend_known w l) (prepend_known v m)
filled_ahead w v given None m c e = tt
filled_ahead w v given (Some xs) None c e = absurd c
filled_ahead w v given (Some xs) (Some ys) c e = ap (λ (t : List ℕ). t ++ ys) e ∙ append_assoc w given ys ∙ ap (λ (t : List ℕ). w ++ t) (sym c)

kept_ahead : (w : List ℕ) (l m : Option (List ℕ)) → Keeps l m → Keeps (prepend_known w l) (prepend_known w m)
kept_ahead w None m k = tt
kept_ahead w (Some xs) None k = absurd k
kept_ahead w (Some xs) (Some ys) k = ap (λ (t : List ℕ). w ++ t) k

-- ---- the loop

pub record HasFilled (old now : Window) (before after : SourceState) : Type 0 where
  pub stays : Stays old now before after
  pub same : after.faults ≡ before.faults

pub nothing_filled : (w : Window) (s : SourceState) → KnowsEnd w s → HasFilled w w s s
nothing_filled w s known = record { stays = record { kept = keeps_same (ahead w s); known = known }; same = refl }

pub more_filled : (a b c : Window) (s t u : SourceState) → HasFilled a b s t → Fills b c t u → HasFilled a c s u
more_filled a b c s t u h f = record {
  stays = record {
    kept = keeps_on (ahead a s) (ahead b t) (ahead c u) h.stays.kept (filled_ahead b.waiting c.waiting f.given t.left u.left f.consumed f.waiting);
    known = f.over;
  };
  same = f.same ∙ h.same;
}

rose_from : (a b c : ℕ) → b ≡ a → Rose b c → Rose a c
rose_from a b c e r = subst (λ (k : ℕ). Rose k c) e r

pub filling_failed : (a b c : Window) (s t u : SourceState) → b.ended ≡ false → HasFilled a b s t → FillsNot b c t u → FailsToFill a c s u
filling_failed a b c s t u going h f = record {
  stays = record {
    kept = keeps_on (ahead a s) (ahead b t) (ahead c u) h.stays.kept (subst (λ (w : Window). Keeps (ahead b t) (ahead w u)) (sym f.window) (kept_ahead b.waiting t.left u.left f.kept));
    known = λ e. absurd (let g : true ≡ false = sym e ∙ ap (λ (w : Window). w.ended) f.window ∙ going in cc);
  };
  rose = rose_from s.faults t.faults u.faults h.same f.rose;
}

pub enough_filled : (a b : Window) (s t : SourceState) → HasFilled a b s t → look_ahead ≤ length b.waiting → FillsUp a b s t
enough_filled a b s t h many = record { stays = h.stays; enough = inl many; same = h.same }

pub all_filled : (a b : Window) (s t : SourceState) → HasFilled a b s t → b.ended ≡ true → FillsUp a b s t
all_filled a b s t h over = record { stays = h.stays; enough = inr over; same = h.same }

-- how many bytes are to be read at most
abbrev pub to_read : Window → ℕ
to_read w = cond w.ended 0 (look_ahead + 1 - length w.waiting)

pub less_to_read : (b c : Window) (s t : SourceState) → b.ended ≡ false → length b.waiting < look_ahead → Fills b c s t → to_read c < to_read b
less_to_read b c s t going few f = by_end c.ended refl where
  before : to_read b ≡ look_ahead + 1 - length b.waiting
  before = ap (λ (e : Bool). cond e 0 (look_ahead + 1 - length b.waiting)) going

  by_end : (e : Bool) → c.ended ≡ e → cond e 0 (look_ahead + 1 - length c.waiting) < to_read b
  by_end true e = omega (arith, before, few)
  by_end false e =
      let some = f.going e in
      let long : length c.waiting ≡ length b.waiting + length f.given = ap length f.waiting ∙ length-append b.waiting f.given in
      omega (arith, before, few, some, long)

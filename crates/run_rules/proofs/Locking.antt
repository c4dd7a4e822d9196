-- What becomes of lines while the machine is locked, and lines that are passed from there on.
use Rattle.std.proofs.Common.{◌≡◌, ℕ, ◌≤◌, Bool, true, false, not, ◌&&◌, ◌||◌, List, [], ◌∷◌, ◌++◌, length, nat_eq, nat_lt, refl, sym, ap, ◌∙◌, subst, arith}
use Rattle.std.specs.List.{list_any}
use Rattle.std.proofs.lemmas.Bool.Decides.{nat_tests}
use Rattle.status_report.specs.declared.Message.TheVariants.{Unlocked}
use Rattle.status_report.specs.declared.Reply.{Reply}
use Rattle.status_report.specs.declared.Reply.TheVariants as replies
use Rattle.system_lines.specs.Commands.{kind_of, command_of}
use Rattle.system_lines.specs.declared.Kind.{Kind as DollarKind}
use Rattle.system_lines.specs.declared.Kind.TheVariants as kinds
use Rattle.units.specs.declared.Steps3.{Steps3}
use Rattle.run_rules.specs.declared.State.{State}
use Rattle.run_rules.specs.Work.{Outcome, is_limit, telling, asks}
use Rattle.run_rules.specs.Work.Kind.{of_none}
use Rattle.run_rules.specs.Outcomes.{Before, IsCut, Passed, Follows, ByCommand, refused, told, after, at_place, most_kept, begins_with_dollar}
use Rattle.run_rules.specs.Outcomes.Passed.{a_line, a_cut}
use Rattle.run_rules.specs.Locking.{unlocks, ByLockedDollar, ByLockedKept, BecomesLocked, BecomesIn, IsBegunIn, FollowsFrom, locked_behind}
use Rattle.run_rules.proofs.Each.{by_either, holds_of_commands}

telling_asks : (rs : List Reply) → asks (telling rs) ≡ []
telling_asks [] = refl
telling_asks (r ∷ rs) = telling_asks rs

-- something is told, and nothing asked of the machine; the parser stays; and it raises no alarm
pub record IsStill (b : Before) (o : Outcome) : Type 0 where
  pub said : List Reply
  pub work : o.work ≡ telling said
  pub calm : is_limit o.answer ≡ false
  pub asks : asks o.work ≡ []
  pub kind : o.kind ≡ of_none
  pub settles : o.settles ≡ false
  pub parser : o.next.parser ≡ b.state.parser

refused_still : (b : Before) (n : ℕ) → IsStill b (refused b n)
refused_still b n = record { said = replies.Error n ∷ []; work = refl; calm = refl; asks = refl; kind = refl; settles = refl; parser = refl }

told_still : (b : Before) (next : State) (body : List Reply) → next.parser ≡ b.state.parser → IsStill b (told next body)
told_still b next body same = record { said = body ++ replies.Ok ∷ []; work = refl; calm = refl; asks = telling_asks (body ++ replies.Ok ∷ []); kind = refl; settles = refl; parser = same }

refused_is : (b : Before) (n : ℕ) (o : Outcome) → o ≡ refused b n → IsStill b o
refused_is b n o is = subst (IsStill b) (sym is) (refused_still b n)

command_still : (b : Before) (kept : List ℕ) (o : Outcome) → ByCommand b (command_of kept) o → IsStill b o
command_still b kept o is = holds_of_commands b (IsStill b) (command_of kept) o (λ code e. refused_still b code.0) (λ n value code e. refused_still b code.0) (λ next body same list. told_still b next body same) is

dollar_still : (b : Before) (kept : List ℕ) (kind : DollarKind) (o : Outcome) → ByLockedDollar b kept kind o → IsStill b o
dollar_still b kept kinds.Unlock o is = subst (IsStill b) (sym is) (told_still b b.state (replies.Message Unlocked ∷ []) refl)
dollar_still b kept kinds.Jog o is = refused_is b 8 o is
dollar_still b kept kinds.BareJog o is = refused_is b 8 o is
dollar_still b kept kinds.ListSettings o is = command_still b kept o is
dollar_still b kept kinds.ListModes o is = command_still b kept o is
dollar_still b kept kinds.ListOffsets o is = command_still b kept o is
dollar_still b kept kinds.Setting o is = command_still b kept o is
dollar_still b kept kinds.Other o is = command_still b kept o is

kept_still : (b : Before) (kept : List ℕ) (o : Outcome) → ByLockedKept b kept o → IsStill b o
kept_still b [] o is = subst (IsStill b) (sym is) (told_still b b.state [] refl)
kept_still b (c ∷ cs) o is = by_either (nat_eq c 36) _ _ _ (λ e. dollar_still b (c ∷ cs) (kind_of (c ∷ cs)) o) (λ e. refused_is b 9 o) is

pub locked_still : (b : Before) (kept : List ℕ) (o : Outcome) → BecomesLocked b kept o → IsStill b o
locked_still b kept o is = by_either (nat_lt most_kept (length kept)) _ _ _ (λ e. refused_is b 11 o) (λ e. kept_still b kept o) is

few_kept : (kept : List ℕ) → length kept ≤ most_kept → nat_lt most_kept (length kept) ≡ true → ⊥
few_kept kept few long = grind (arith, nat_tests)

pub code_refused : (b : Before) (c : ℕ) (cs : List ℕ) (o : Outcome) → length (c ∷ cs) ≤ most_kept → begins_with_dollar (c ∷ cs) ≡ false → BecomesLocked b (c ∷ cs) o → o ≡ refused b 9
code_refused b c cs o few code is = by_either (nat_lt most_kept (length (c ∷ cs))) _ _ _
    (λ long e. absurd (few_kept (c ∷ cs) few long)) (λ short. by_either (nat_eq c 36) _ _ _ (λ dollar e. absurd (let f = sym dollar ∙ code in cc)) (λ other e. e)) is

-- ---- lines from where the machine may be locked

pub free_follows : (runs : Bool) (b last : Before) (ls : List (List ℕ)) (ps : List Passed) → FollowsFrom false runs b ls ps last → Follows runs b ls ps last
free_follows runs b last ls (a_cut k at ∷ ps) run = (run.0, free_follows runs (at_place at b) last ls ps run.1)
free_follows runs b last [] [] run = run
free_follows runs b last (l ∷ ls) (a_line o ∷ ps) run = (record { free = run.0.free; becomes = run.0.becomes }, free_follows runs (after b o) last ls ps run.1)
free_follows runs b last [] (a_line o ∷ ps) run = absurd run
free_follows runs b last (l ∷ ls) [] run = absurd run

pub follows_free : (runs : Bool) (b last : Before) (ls : List (List ℕ)) (ps : List Passed) → Follows runs b ls ps last → FollowsFrom false runs b ls ps last
follows_free runs b last ls (a_cut k at ∷ ps) run = (run.0, follows_free runs (at_place at b) last ls ps run.1)
follows_free runs b last [] [] run = run
follows_free runs b last (l ∷ ls) (a_line o ∷ ps) run = (record { free = run.0.free; becomes = run.0.becomes }, follows_free runs (after b o) last ls ps run.1)
follows_free runs b last [] (a_line o ∷ ps) run = absurd run
follows_free runs b last (l ∷ ls) [] run = absurd run

not_either : (t a b : Bool) → (t && not (a || b)) ≡ ((t && not a) && not b)
not_either false a b = refl
not_either true true b = refl
not_either true false b = refl

by_first : (locked : Bool) (l : List ℕ) (ls : List (List ℕ)) → locked_behind locked (l ∷ ls) ≡ locked_behind (locked && not (unlocks l)) ls
by_first locked l ls = not_either locked (unlocks l) (list_any unlocks ls)

none_yet : (locked : Bool) → locked_behind locked [] ≡ locked
none_yet true = refl
none_yet false = refl

begun_on : (locked runs : Bool) (b last : Before) (ls : List (List ℕ)) (ps : List Passed) (l : List ℕ) (o : Outcome)
    → FollowsFrom locked runs b ls ps last → IsBegunIn (locked_behind locked ls) runs last l o → FollowsFrom locked runs b (ls ++ l ∷ []) (ps ++ a_line o ∷ []) (after last o)
begun_on locked runs b last ls (a_cut k at ∷ ps) l o run begun = (run.0, begun_on locked runs (at_place at b) last ls ps l o run.1 begun)
begun_on locked runs b last [] [] l o run begun =
    (subst (λ (t : Bool). IsBegunIn t runs b l o) (none_yet locked) (subst (λ (u : Before). IsBegunIn (locked_behind locked []) runs u l o) run begun), ap (λ (u : Before). after u o) run)
begun_on locked runs b last (m ∷ ls) (a_line x ∷ ps) l o run begun =
    (run.0, begun_on (locked && not (unlocks m)) runs (after b x) last ls ps l o run.1 (subst (λ (t : Bool). IsBegunIn t runs last l o) (by_first locked m ls) begun))
begun_on locked runs b last [] (a_line x ∷ ps) l o run begun = absurd run
begun_on locked runs b last (m ∷ ls) [] l o run begun = absurd run

pub line_goes_on : (locked runs : Bool) (b last : Before) (ls : List (List ℕ)) (ps : List Passed) (l : List ℕ) (o : Outcome)
    → FollowsFrom locked runs b ls ps last → last.alarmed ≡ false → BecomesIn (locked_behind locked ls) runs last l o → FollowsFrom locked runs b (ls ++ l ∷ []) (ps ++ a_line o ∷ []) (after last o)
line_goes_on locked runs b last ls ps l o run free becomes = begun_on locked runs b last ls ps l o run (record { free = free; becomes = becomes })

pub cut_goes_on : (locked runs : Bool) (b last : Before) (ls : List (List ℕ)) (ps : List Passed) (k : ℕ) (at : Steps3)
    → FollowsFrom locked runs b ls ps last → IsCut runs last k → FollowsFrom locked runs b ls (ps ++ a_cut k at ∷ []) (at_place at last)
cut_goes_on locked runs b last ls (a_cut j there ∷ ps) k at run is = (run.0, cut_goes_on locked runs (at_place there b) last ls ps k at run.1 is)
cut_goes_on locked runs b last [] [] k at run is = (subst (λ (u : Before). IsCut runs u k) run is, ap (at_place at) run)
cut_goes_on locked runs b last (m ∷ ls) (a_line x ∷ ps) k at run is = (run.0, cut_goes_on (locked && not (unlocks m)) runs (after b x) last ls ps k at run.1 is)
cut_goes_on locked runs b last [] (a_line x ∷ ps) k at run is = absurd run
cut_goes_on locked runs b last (m ∷ ls) [] k at run is = absurd run

-- A console stands up to where a course has come, by the records of the lines that stand, if the next line stands no more.
use Rattle.std.proofs.Common.{◌≡◌, ℕ, zero, suc, List, [], ◌∷◌, ◌++◌, append_assoc, append-nil, replicate, true, false, refl, sym, ap, ◌∙◌, subst}
use Rattle.std.proofs.lemmas.List.Concat.{flat_map-append}
use Rattle.units.specs.declared.Steps3.{Steps3}
use Rattle.flight.specs.Places.{moved_by, origin}
use Rattle.status_report.specs.declared.Reply.{Reply}
use Rattle.step_line.specs.declared.Bits.{Bits}
use Rattle.step_line.specs.declared.Record.{Record}
use Rattle.step_line.specs.declared.Record.TheVariants as kinds
use Rattle.run_rules.specs.Work.{Outcome}
use Rattle.run_texts.specs.Courses.{Passed}
use Rattle.run_texts.specs.Making.{Making, IsMade}
use Rattle.run_texts.specs.Points.{Point}
use Rattle.run_texts.specs.Parts.{Part, parts_of, ending_record, is_ending, lines_counted}
use Rattle.run_texts.specs.Sent.{Sent}
use Rattle.run_texts.specs.SoFar.{AreMadeSoFar, LeadsTo, RebasesNothing}
use Rattle.run_texts.specs.Told.{told_in, told_of}
use Rattle.run_texts.proofs.Making.{before_record}
use Rattle.run_texts.proofs.Stops.{Inside, is_an_ending}
use Rattle.audit_rules.specs.Consoles.{Tells, TellsNext}
use Rattle.audit_rules.specs.Faults.{ComesUpTo, FailsAt, ReadsUpTo}
use Rattle.audit_rules.specs.Onward.{HasCome, IsOfLater, TellsNothing, TellsNoAlarm}
use Rattle.audit_rules.specs.Standing.{AreUpTo, MayWait, Stand, StandRead}
use Rattle.audit_rules.specs.StepTexts.{records_of}
use Rattle.audit_rules.specs.Telling.{HasAlarm, HasBadReply, IsLineAtFault, StandsUpTo, last_answered}
use Rattle.step_record.specs.Forms.{records_of as records_by}
use Rattle.step_record.specs.declared.forms.Line.{Line}
use Rattle.step_record.specs.declared.forms.Line.TheVariants as line_kinds
use Rattle.audit_rules.proofs.Behind.{leads, tells, makes}
use Rattle.audit_rules.proofs.Come.{stand}
use Rattle.audit_rules.proofs.NoAlarm.{no_alarm}
use Rattle.audit_rules.proofs.NoFurther.{bad_reply, told_on}
use Rattle.audit_rules.proofs.NoRecord.{no_record}
use Rattle.audit_rules.proofs.OneWay.{both}
use Rattle.audit_rules.proofs.Replies.{all_first, all_second}
use Rattle.audit_rules.proofs.Stands.{stand_front}
use Rattle.audit_rules.proofs.UpTo.{stand_to}

-- ---- fewer records of the last part

record EndsBefore (xs part mine rest : List Record) (r : Record) : Type 0 where
  front : List Record
  split : xs ≡ mine ++ r ∷ front
  on : rest ≡ front ++ part

-- the record that ends a part stands before some that end none
ends_before : (xs part mine rest : List Record) (r : Record) → is_ending r ≡ true → Inside part → xs ++ part ≡ mine ++ r ∷ rest → EndsBefore xs part mine rest r
ends_before [] part mine rest r ends inside is = both (is_ending r) ends (all_second (λ q. is_ending q ≡ false) mine (r ∷ rest) (subst Inside is inside)).0
ends_before (x ∷ xs) part [] rest r ends inside is =
    let same : x ≡ r = cc in
    let more : xs ++ part ≡ rest = cc in
    record { front = xs; split = ap (λ q. q ∷ xs) same; on = sym more }
ends_before (x ∷ xs) part (m ∷ mine) rest r ends inside is =
    let same : x ≡ m = cc in
    let b = ends_before xs part mine rest r ends inside (let more : xs ++ part ≡ mine ++ r ∷ rest = cc in more) in
    record { front = b.front; split = ap (λ q. q ∷ xs) same ∙ ap (λ (rs : List Record). m ∷ rs) b.split; on = b.on }

made_front : (lines : List Outcome) (xs part : List Record) (m : Making) → IsMade lines (xs ++ part) m → (n : Making) × IsMade lines xs n
made_front lines xs [] m is = (m, subst (λ (rs : List Record). IsMade lines rs m) (append-nil xs) is)
made_front lines xs (r ∷ part) m is =
    let more = made_front lines (xs ++ r ∷ []) part m (subst (λ (rs : List Record). IsMade lines rs m) (sym (append_assoc xs (r ∷ []) part)) is) in
    let b = before_record lines xs r more.0 more.1 in
    (b.before, b.is)

fewer_made : (parts : List Part) (place : Steps3) (xs part : List Record) → Inside part → AreMadeSoFar place parts (xs ++ part) → AreMadeSoFar place parts xs
fewer_made [] place xs part inside all = absurd all
fewer_made (p ∷ []) place xs part inside all = made_front (lines_counted p) xs part all.0 all.1
fewer_made (p ∷ q ∷ ps) place xs part inside all =
    let b = ends_before xs part all.0 all.1 (ending_record p.ending) (is_an_ending p.ending) inside all.2 in
    (all.0, b.front, b.split, all.3, fewer_made (q ∷ ps) (moved_by place all.0) b.front part inside (subst (λ (rs : List Record). AreMadeSoFar (moved_by place all.0) (q ∷ ps) rs) b.on all.4))

-- ---- a part of a line

equal_inside : (n : ℕ) (b : Bits) → Inside (replicate n (kinds.Event b))
equal_inside zero b = tt
equal_inside (suc n) b = (refl, equal_inside n b)

-- the records of a line before its last one end no part
line_inside : (line : Line) (part tail : List Record) (r : Record) → records_of (line ∷ []) ≡ part ++ r ∷ tail → Inside part
line_inside (line_kinds.One q) [] tail r is = tt
line_inside (line_kinds.One q) (x ∷ []) tail r is = absurd (let e : ◌≡◌ {A = List Record} (q ∷ []) (x ∷ r ∷ tail) = is in cc)
line_inside (line_kinds.One q) (x ∷ y ∷ part) tail r is = absurd (let e : ◌≡◌ {A = List Record} (q ∷ []) (x ∷ y ∷ (part ++ r ∷ tail)) = is in cc)
line_inside (line_kinds.Run n b) part tail r is =
    all_first (λ q. is_ending q ≡ false) part (r ∷ tail) (subst Inside is (subst Inside (sym (append-nil (replicate n (kinds.Event b)))) (equal_inside n b)))
line_inside line_kinds.Version [] tail r is = tt
line_inside line_kinds.Version (x ∷ part) tail r is = absurd (let e : ◌≡◌ {A = List Record} [] (x ∷ (part ++ r ∷ tail)) = is in cc)

part_inside : (done lines : List Line) (records left : List Record) (a : AreUpTo done lines records left) → Inside a.part
part_inside done lines records [] a = subst Inside (sym (a.none refl).1) tt
part_inside done lines records (r ∷ others) a = let s = a.some r others refl in line_inside s.0 a.part s.2 r s.4

-- ---- by the lines that stand

pub up_to_lines : (sent : List Sent) (console steps : List ℕ) (lines : List Line) (text : List ℕ) (records left : List Record) (q : Point) (gone : List Sent) (later : List ℕ) (s : StandsUpTo sent console records q gone later)
    → StandRead sent console steps lines text records left → ComesUpTo sent console steps lines records left q gone later (s.course ++ s.others)
up_to_lines sent console steps lines text records left q gone later s read =
    let z = stand_to sent console steps lines text records left read in
    record {
      steps_stand = z.0;
      are = z.1;
      stands = record {
        first = s.first;
        opens = s.opens;
        course = s.course;
        between = s.between;
        waiting = s.waiting;
        leads = s.leads;
        made = fewer_made (parts_of s.course) origin (records_of z.0.done) z.1.part (part_inside z.0.done lines records left z.1)
            (subst (λ (rs : List Record). AreMadeSoFar origin (parts_of s.course) rs) z.1.records_are s.made);
        others = s.others;
        goes_on = s.goes_on;
        rebases = s.rebases;
        told = s.told;
        waits = s.waits;
      };
      is = refl;
    }

-- ---- a course that has come to a point

module _ (sent : List Sent) (console steps : List ℕ) (records made : List Record) (since begun : List Outcome) (c : HasCome sent console records since begun made) where
  -- and goes on from there without records
  pub comes_on : (lines : List Line) (text : List ℕ) (left : List Record) → StandRead sent console steps lines text records left → (q : Point) (gone : List Sent) (later : List ℕ) (ps : List Passed) → LeadsTo c.point c.left ps q gone
      → RebasesNothing c.point c.left ps → TellsNext c.rest (told_in ps) later → MayWait q gone later → ComesUpTo sent console steps lines records left q gone later (c.reached.course ++ ps)
  comes_on lines text left read q gone later ps goes_on rebases told waits = up_to_lines sent console steps lines text records left q gone later (record {
    first = c.first;
    opens = c.opens;
    course = c.reached.course;
    between = c.point;
    waiting = c.left;
    leads = leads sent console records since begun made c;
    made = makes sent console records since begun made c;
    others = ps;
    goes_on = goes_on;
    rebases = rebases;
    told = subst (λ (rs : List Reply). Tells console rs later) (sym (flat_map-append told_of c.reached.course ps)) (told_on console (told_in c.reached.course) (told_in ps) c.rest later (tells sent console records since begun made c) told);
    waits = waits;
  }) read

  pub comes_here : (lines : List Line) (text : List ℕ) (left : List Record) → StandRead sent console steps lines text records left → ComesUpTo sent console steps lines records left c.point c.left c.rest c.reached.course
  comes_here lines text left read =
      subst (λ (ps : List Passed). ComesUpTo sent console steps lines records left c.point c.left c.rest ps) (append-nil c.reached.course)
      (comes_on lines text left read c.point c.left c.rest [] (refl, refl) tt (record { replies = []; text = refl; each = tt; are = refl }) c.waits)

  -- ---- steps that were read

  -- no record stands that may be the next
  read_up_to : (May : Record → Type 0) (lines : List Line) (rest : List ℕ) (left : List Record) → ReadsUpTo steps lines rest records left May → ((r : Record) → May r → Stand sent console (records ++ r ∷ []) → ⊥)
      → StandRead sent console steps lines rest records left
  read_up_to May lines rest left read none = record {
    text = read.text;
    are = read.are;
    records_are = read.records_are;
    stand = stand sent console records since begun made c;
    no_record = λ r others is s. none r (read.next_record r others is) s;
    no_line = λ empty line more is are s.
        let n = read.next_line empty line more is are in
        let all : records_of (lines ++ line ∷ []) ≡ (records ++ n.0 ∷ []) ++ n.1 =
        flat_map-append records_by lines (line ∷ [])
        ∙ ap (λ (rs : List Record). rs ++ records_of (line ∷ [])) (sym (sym (append-nil records) ∙ ap (λ (rs : List Record). records ++ rs) (sym empty) ∙ read.records_are))
        ∙ ap (λ (rs : List Record). records ++ rs) n.2
        ∙ sym (append_assoc records (n.0 ∷ []) n.1) in
        none n.0 n.3 (stand_front sent console (records ++ n.0 ∷ []) n.1 (subst (λ (rs : List Record). Stand sent console rs) all s));
  }

  pub read_no_further : (lines : List Line) (text : List ℕ) (left : List Record) → ReadsUpTo steps lines text records left (λ r. Stand sent console (records ++ r ∷ []) → ⊥) → StandRead sent console steps lines text records left
  read_no_further lines text left read = read_up_to (λ r. Stand sent console (records ++ r ∷ []) → ⊥) lines text left read (λ r none. none)

  -- ---- a bad reply, and no alarm

  module _ (lines : List Line) (rest : List ℕ) (left : List Record) (read : ReadsUpTo steps lines rest records left (IsOfLater c.point.before.number c.making.owed)) where
    stands_to : TellsNothing c.point c.left c.rest → ComesUpTo sent console steps lines records left c.point c.left c.rest c.reached.course
    stands_to nothing = comes_here lines rest left (read_up_to (IsOfLater c.point.before.number c.making.owed) lines rest left read (no_record sent console records made since begun c nothing))

    pub comes_to_fault : (line : ℕ) → FailsAt c.point c.left c.rest (last_answered 1 0 c.reached.course) line → HasBadReply sent console steps line
    comes_to_fault line f =
        let u = stands_to f.nothing in
        bad_reply sent console steps u.steps_stand c.point c.left c.rest u.stands f.nothing f.some line
        (subst (λ (ps : List Passed). IsLineAtFault c.point c.left c.rest (last_answered 1 0 ps) line) (sym u.is) f.is)

    pub comes_to_no_alarm : TellsNothing c.point c.left c.rest → c.point.before.alarmed ≡ false → TellsNoAlarm c.point c.left c.rest → (k : ℕ) → HasAlarm sent console steps k → ⊥
    comes_to_no_alarm nothing free none k =
        let u = stands_to nothing in
        no_alarm sent console steps u.steps_stand c.point c.left c.rest u.stands nothing free none k

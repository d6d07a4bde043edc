-- Groups of positions.
use Rattle.std.specs.Prelude.{◌≡◌, true, false, ℕ}
use Rattle.swap_machine.specs.Machine.{Position, idle, at_publish, at_read_result, at_clean, at_place_mark, at_re_read, at_try_fail, at_give_back, at_decide, at_finish_first, at_finish_second, at_write_success, at_withdraw}

-- the scanner is at work on descriptor d
abbrev pub Of : ℕ → Position → Type 0
Of d idle = ⊥
Of d (at_publish e) = e ≡ d
Of d (at_read_result e via) = e ≡ d
Of d (at_clean e via) = e ≡ d
Of d (at_place_mark e own) = e ≡ d
Of d (at_re_read e own) = e ≡ d
Of d (at_try_fail e own) = e ≡ d
Of d (at_give_back e own) = e ≡ d
Of d (at_decide e own t placed) = e ≡ d
Of d (at_finish_first e own t) = e ≡ d
Of d (at_finish_second e own t) = e ≡ d
Of d (at_write_success e own t) = e ≡ d
Of d (at_withdraw e own ok) = e ≡ d

-- it is in its own run of d
abbrev pub Own : ℕ → Position → Type 0
Own d idle = ⊥
Own d (at_publish e) = e ≡ d
Own d (at_read_result e via) = ⊥
Own d (at_clean e via) = ⊥
Own d (at_place_mark e own) = (e ≡ d) × (own ≡ true)
Own d (at_re_read e own) = (e ≡ d) × (own ≡ true)
Own d (at_try_fail e own) = (e ≡ d) × (own ≡ true)
Own d (at_give_back e own) = (e ≡ d) × (own ≡ true)
Own d (at_decide e own t placed) = (e ≡ d) × (own ≡ true)
Own d (at_finish_first e own t) = (e ≡ d) × (own ≡ true)
Own d (at_finish_second e own t) = (e ≡ d) × (own ≡ true)
Own d (at_write_success e own t) = (e ≡ d) × (own ≡ true)
Own d (at_withdraw e own ok) = (e ≡ d) × (own ≡ true)

-- it is in a help, or in nothing
abbrev pub Helping : Position → Type 0
Helping idle = Unit {0}
Helping (at_publish e) = ⊥
Helping (at_read_result e via) = Unit {0}
Helping (at_clean e via) = Unit {0}
Helping (at_place_mark e own) = own ≡ false
Helping (at_re_read e own) = own ≡ false
Helping (at_try_fail e own) = own ≡ false
Helping (at_give_back e own) = own ≡ false
Helping (at_decide e own t placed) = own ≡ false
Helping (at_finish_first e own t) = own ≡ false
Helping (at_finish_second e own t) = own ≡ false
Helping (at_write_success e own t) = own ≡ false
Helping (at_withdraw e own ok) = own ≡ false

-- it is in its own run of d, past the publishing, and has not yet seen a result
abbrev pub Deciding : ℕ → Position → Type 0
Deciding d idle = ⊥
Deciding d (at_publish e) = ⊥
Deciding d (at_read_result e via) = ⊥
Deciding d (at_clean e via) = ⊥
Deciding d (at_place_mark e own) = (e ≡ d) × (own ≡ true)
Deciding d (at_re_read e own) = (e ≡ d) × (own ≡ true)
Deciding d (at_try_fail e own) = (e ≡ d) × (own ≡ true)
Deciding d (at_give_back e own) = ⊥
Deciding d (at_decide e own t placed) = (e ≡ d) × (own ≡ true)
Deciding d (at_finish_first e own t) = ⊥
Deciding d (at_finish_second e own t) = ⊥
Deciding d (at_write_success e own t) = ⊥
Deciding d (at_withdraw e own ok) = ⊥

-- it is about to place its mark of d
abbrev pub AboutToPlace : ℕ → Position → Type 0
AboutToPlace d idle = ⊥
AboutToPlace d (at_publish e) = ⊥
AboutToPlace d (at_read_result e via) = ⊥
AboutToPlace d (at_clean e via) = ⊥
AboutToPlace d (at_place_mark e own) = e ≡ d
AboutToPlace d (at_re_read e own) = ⊥
AboutToPlace d (at_try_fail e own) = ⊥
AboutToPlace d (at_give_back e own) = ⊥
AboutToPlace d (at_decide e own t placed) = ⊥
AboutToPlace d (at_finish_first e own t) = ⊥
AboutToPlace d (at_finish_second e own t) = ⊥
AboutToPlace d (at_write_success e own t) = ⊥
AboutToPlace d (at_withdraw e own ok) = ⊥

-- it has placed its mark of d, and looks at the result next
abbrev pub HasPlaced : ℕ → Position → Type 0
HasPlaced d idle = ⊥
HasPlaced d (at_publish e) = ⊥
HasPlaced d (at_read_result e via) = ⊥
HasPlaced d (at_clean e via) = ⊥
HasPlaced d (at_place_mark e own) = ⊥
HasPlaced d (at_re_read e own) = ⊥
HasPlaced d (at_try_fail e own) = ⊥
HasPlaced d (at_give_back e own) = ⊥
HasPlaced d (at_decide e own t placed) = (e ≡ d) × (placed ≡ true)
HasPlaced d (at_finish_first e own t) = ⊥
HasPlaced d (at_finish_second e own t) = ⊥
HasPlaced d (at_write_success e own t) = ⊥
HasPlaced d (at_withdraw e own ok) = ⊥

-- it has placed its mark of d, or writes the new words of d
abbrev pub Finishing : ℕ → Position → Type 0
Finishing d idle = ⊥
Finishing d (at_publish e) = ⊥
Finishing d (at_read_result e via) = ⊥
Finishing d (at_clean e via) = ⊥
Finishing d (at_place_mark e own) = ⊥
Finishing d (at_re_read e own) = ⊥
Finishing d (at_try_fail e own) = ⊥
Finishing d (at_give_back e own) = ⊥
Finishing d (at_decide e own t placed) = (e ≡ d) × (placed ≡ true)
Finishing d (at_finish_first e own t) = e ≡ d
Finishing d (at_finish_second e own t) = e ≡ d
Finishing d (at_write_success e own t) = e ≡ d
Finishing d (at_withdraw e own ok) = ⊥

-- it writes the new words of d for the mark of s
abbrev pub FinishingFor : ℕ → ℕ → Position → Type 0
FinishingFor d s idle = ⊥
FinishingFor d s (at_publish e) = ⊥
FinishingFor d s (at_read_result e via) = ⊥
FinishingFor d s (at_clean e via) = ⊥
FinishingFor d s (at_place_mark e own) = ⊥
FinishingFor d s (at_re_read e own) = ⊥
FinishingFor d s (at_try_fail e own) = ⊥
FinishingFor d s (at_give_back e own) = ⊥
FinishingFor d s (at_decide e own t placed) = ⊥
FinishingFor d s (at_finish_first e own t) = (e ≡ d) × (t ≡ s)
FinishingFor d s (at_finish_second e own t) = (e ≡ d) × (t ≡ s)
FinishingFor d s (at_write_success e own t) = (e ≡ d) × (t ≡ s)
FinishingFor d s (at_withdraw e own ok) = ⊥

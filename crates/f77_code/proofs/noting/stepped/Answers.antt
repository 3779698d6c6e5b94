use Rattle.f77_code.proofs.Common.{◌∙◌, ap, sym, arith, refl, length, ◌<◌, length-take, slice_get_read, numbers_of, NotesList, NotesStep}
use Rattle.f77_code.proofs.Following.{none_of, set_numbers}
use Rattle.f77_code.proofs.noting.stepped.Goals as goal

pub returns-then-len-place-clause-noted : goal.returns-then-len-place-clause-noted
returns-then-len-place-clause-noted c = NotesList.beyond (omega (arith, c.if-len-place.true, c.len.ensures, c.args.list.now.ok.0)) refl

pub returns-then-passed-clause-noted : goal.returns-then-passed-clause-noted
returns-then-passed-clause-noted c =
    let below : c.args.place < length c.args.list.now.items = omega (arith, c.if-len-place.false, c.len.ensures, c.args.list.now.ok.0) in
    NotesList.noted c.index_mut-passed.result.now _
    (slice_get_read c.args.list.now.items _ c.args.place c.index_mut-passed.result.now refl below c.index_mut-passed.ensures.value) refl (NotesStep.left_out refl refl)

pub returns-then-passed-clause-room : goal.returns-then-passed-clause-room
returns-then-passed-clause-room c =
    let below : c.args.place < length c.args.list.now.items = omega (arith, c.if-len-place.false, c.len.ensures, c.args.list.now.ok.0) in
    set_numbers c.args.list.now.items c.args.place c.index_mut-passed.result.now _
    (slice_get_read c.args.list.now.items _ c.args.place c.index_mut-passed.result.now refl below c.index_mut-passed.ensures.value) c.args.room.now c.args.room.now refl

pub returns-clause-noted : goal.returns-clause-noted
returns-clause-noted c =
    let below : c.args.place < length c.args.list.now.items = omega (arith, c.if-len-place.false, c.len.ensures, c.args.list.now.ok.0) in
    NotesList.noted c.index_mut-passed.result.now _
    (slice_get_read c.args.list.now.items _ c.args.place c.index_mut-passed.result.now refl below c.index_mut-passed.ensures.value) refl
    (NotesStep.is_kept _ (none_of c.index_mut-passed.result.now.first (sym c.is_some.ensures ∙ c.if-is_some.false)) c.if-passed.false c.if-passed.false refl
    (record {
      made = refl;
      slots = c.in_ok-slots_before.ensures.items_if_clones_equal (λ x y is. is);
      turns = c.in_ok-turns_before.ensures.items_if_clones_equal (λ x y is. is);
      place = refl;
      slots_after = c.in_ok-slots_after.ensures.items_if_clones_equal (λ x y is. is);
      turns_after = c.in_ok-turns_after.ensures.items_if_clones_equal (λ x y is. is);
    }))

pub returns-clause-room : goal.returns-clause-room
returns-clause-room c =
    let below : c.args.place < length c.args.list.now.items = omega (arith, c.if-len-place.false, c.len.ensures, c.args.list.now.ok.0) in
    let none = none_of c.index_mut-passed.result.now.first (sym c.is_some.ensures ∙ c.if-is_some.false) in
    set_numbers c.args.list.now.items c.args.place c.index_mut-passed.result.now _
    (slice_get_read c.args.list.now.items _ c.args.place c.index_mut-passed.result.now refl below c.index_mut-passed.ensures.value) c.args.room.now _
    (omega (
      arith,
      ap numbers_of none,
      c.requires.slots,
      c.in_ok-slots_before.ensures.len,
      c.in_ok-turns_before.ensures.len,
      c.in_ok-slots_after.ensures.len,
      c.in_ok-turns_after.ensures.len,
      c.saturating_add-size.ensures,
      c.if-room-size.false,
      c.block-next.auto.registers,
      c.block-next.auto.turns,
      length-take c.args.slots c.args.registers.now,
      length-take c.args.slots c.block-next.new.registers,
    ))

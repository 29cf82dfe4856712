use Rattle.std.proofs.Common.{◌≡◌, ℕ, ◌+◌, List, [], ◌∷◌, ◌++◌, get_or, option_map, ap, ◌∙◌, sym, arith}
use Rattle.std.proofs.lemmas.List.{drop_all}
use Rattle.sl_syntax.specs.declared.tree.expr.Expr.{Expr as ExprCode}
use Rattle.sl_syntax.specs.TreeView.{expr_of, exprs_of}
use Rattle.sl_syntax.specs.TypedView as view
use Rattle.sl_candidates.specs.Found.{found_of}
use Rattle.sl_typing.specs.declared.expr_type.ExprType.{ExprType}
use Rattle.sl_specs.specs.declared.letter.Letter.{Letter}
use Rattle.sl_typing.specs.Numbering.{Way, handed, first_way, typed, operands, told, ways}
use Rattle.sl_typing.specs.Sites.{inside}
use Rattle.sl_typing.specs.TypeOf.{type_of, is_first}
use Rattle.sl_numbering.specs.WaysView.{ways_seen}
use Rattle.sl_numbering.proofs.NodeLaws.{nodes_of, nodes_of_all, sites_of, nodes-item, nodes-Call, nodes-LibraryCall, nodes-Parentheses, nodes-Prefix}
use Rattle.sl_numbering.proofs.NodeLaws.{nodes-Binary, nodes-Postfix, nodes-Index, nodes-MemberCall, nodes-Member}
use Rattle.sl_numbering.proofs.OperandLaws.{argument_fits, rest_fits, more_operands, all_operands}
use Rattle.sl_numbering.proofs.SiteLaws.{count_all, sites-Call, sites-LibraryCall, sites-Parentheses, sites-Prefix, sites-Binary, sites-Postfix}
use Rattle.sl_numbering.proofs.SiteLaws.{sites-Index, object-Index, sites-MemberCall, object-MemberCall, sites-Member}
use Rattle.sl_numbering.proofs.TypedLaws.{typed-Number, typed-Truth, typed-Name, typed-Parentheses, seen_as, call_answer, library_answer, prefix_answer, postfix_answer, binary_answer}
use Rattle.sl_numbering.proofs.TypedLaws.{index_answer, member_answer, member_part_answer}
use Rattle.sl_numbering.proofs.expression.+numbering.Goals as goal

pub operands-typed_operand-requires : goal.operands-typed_operand-requires
operands-typed_operand-requires t c =
    (omega (arith, nodes-item c.args.xs.now c.loop-x.x-index c.x-item.result c.loop-x-test.true c.x-item.is), (c.requires.numbered, argument_fits c.args.scope.now c.loop-x.count c.args.xs.now c.loop-x.x-index c.x-item.result c.loop-x-test.true c.x-item.is c.loop-x.invariant.fits))

pub operands-sites_of-requires : goal.operands-sites_of-requires
operands-sites_of-requires t c =
    omega (arith, argument_fits c.args.scope.now c.loop-x.count c.args.xs.now c.loop-x.x-index c.x-item.result c.loop-x-test.true c.x-item.is c.loop-x.invariant.fits)

pub operands-overflow_add-count : goal.operands-overflow_add-count
operands-overflow_add-count t c =
    omega (arith, c.sites_of.ensures, argument_fits c.args.scope.now c.loop-x.count c.args.xs.now c.loop-x.x-index c.x-item.result c.loop-x-test.true c.x-item.is c.loop-x.invariant.fits)

pub operands-loop-x-preserved : goal.operands-loop-x-preserved
operands-loop-x-preserved t c =
    let g = c.args.scope.now in
    let pushed : c.push.new.self.items ≡ c.loop-x.values.items ++ c.in_ok-handed.field-0 ∷ [] = c.in_ok-push.ensures.items in
    record {
      fits = rest_fits g c.loop-x.count c.sites_of.result c.args.xs.now c.loop-x.x-index c.x-item.result c.loop-x-test.true c.x-item.is c.sites_of.ensures c.loop-x.invariant.fits;
      handed_over = rw pushed (more_operands g c.loop-x.count (c.loop-x.count + c.sites_of.result) (ways_seen c.loop-x.ways) (ways_seen c.others-ways.result)
          c.args.xs.now c.loop-x.x-index c.x-item.result c.loop-x.values.items c.in_ok-handed.field-0 _ c.loop-x-test.true
          (ap (λ (n : ℕ). c.loop-x.count + n) (c.sites_of.ensures ∙ ap (sites_of g) c.x-item.is)) c.others-ways.ensures (c.in_ok-handed.ensures ∙ ap (λ (w : Way). handed w c.in_ok-operand.operand.value_type (view.expr_of c.in_ok-operand.operand.value)) c.first.ensures
          ∙ ap (λ (u : ExprType). handed (first_way (ways_seen c.loop-x.ways)) u (view.expr_of c.in_ok-operand.operand.value))
          (c.in_ok-operand.ensures.own_type ∙ ap (λ (y : ExprCode). type_of g (expr_of y)) c.x-item.is)
          ∙ ap (handed (first_way (ways_seen c.loop-x.ways)) (type_of g (expr_of (get_or c.args.xs.now c.loop-x.x-index c.x-item.result))))
          (c.in_ok-operand.ensures.value ∙ ap (λ (y : ExprCode). typed g c.loop-x.count (expr_of y)) c.x-item.is)) c.loop-x.invariant.handed_over);
    }

pub operands-returns : goal.operands-returns
operands-returns t c =
    all_operands c.args.scope.now c.loop-x.count (ways_seen c.loop-x.ways) c.args.xs.now c.loop-x.x-index c.loop-x.values.items _ (drop_all c.loop-x.x-index c.args.xs.now c.loop-x-test.false) c.loop-x.invariant.handed_over

pub typed-operands-requires : goal.typed-operands-requires
typed-operands-requires t c =
    let a = c.in-Call in
    let g = c.args.scope.now in
    (omega (arith, ap nodes_of a.is, nodes-Call a.function a.arguments, ap nodes_of_all c.deref.ensures.value), (c.requires.numbered, omega (arith, c.requires.sites, ap (sites_of g) a.is, sites-Call g a.function a.arguments, ap (λ (ys : List ExprCode). count_all g (exprs_of ys)) c.deref.ensures.value)))

pub typed-operands-requires-in-LibraryCall : goal.typed-operands-requires-in-LibraryCall
typed-operands-requires-in-LibraryCall t c =
    let a = c.in-LibraryCall in
    let g = c.args.scope.now in
    (omega (arith, ap nodes_of a.is, nodes-LibraryCall a.function a.arguments, ap nodes_of_all c.as_slice-given.ensures.value), (c.requires.numbered, omega (arith, c.requires.sites, ap (sites_of g) a.is, sites-LibraryCall g c.args.before a.function a.arguments, ap (λ (ys : List ExprCode). count_all g (exprs_of ys)) c.as_slice-given.ensures.value, c.inside.ensures, ap (λ (y : ExprCode). inside g c.args.before (expr_of y)) a.is)))

pub typed-typed-requires : goal.typed-typed-requires
typed-typed-requires t c =
    let a = c.in-Parentheses in
    let g = c.args.scope.now in
    (omega (arith, ap nodes_of a.is, nodes-Parentheses a.place a.inner, ap nodes_of c.deref-in-Parentheses.ensures), (c.requires.numbered, omega (arith, c.requires.sites, ap (sites_of g) a.is, sites-Parentheses g a.place a.inner, ap (sites_of g) c.deref-in-Parentheses.ensures)))

pub typed-typed_operand-requires : goal.typed-typed_operand-requires
typed-typed_operand-requires t c =
    let a = c.in-Prefix in
    let g = c.args.scope.now in
    (omega (arith, ap nodes_of a.is, nodes-Prefix a.operator a.place a.operand, ap nodes_of c.deref-in-Prefix.ensures), (c.requires.numbered, omega (arith, c.requires.sites, ap (sites_of g) a.is, sites-Prefix g a.operator a.place a.operand, ap (sites_of g) c.deref-in-Prefix.ensures)))

pub typed-typed_operand-requires-in-Binary : goal.typed-typed_operand-requires-in-Binary
typed-typed_operand-requires-in-Binary t c =
    let a = c.in-Binary in
    let g = c.args.scope.now in
    (omega (arith, ap nodes_of a.is, nodes-Binary a.left a.operator a.place a.right, ap nodes_of c.deref-in-Binary.ensures), (c.requires.numbered, omega (arith, c.requires.sites, ap (sites_of g) a.is, sites-Binary g a.left a.operator a.place a.right, ap (sites_of g) c.deref-in-Binary.ensures)))

pub typed-sites_of-requires : goal.typed-sites_of-requires
typed-sites_of-requires t c =
    let a = c.in-Binary in
    let g = c.args.scope.now in
    omega (arith, c.requires.sites, ap (sites_of g) a.is, sites-Binary g a.left a.operator a.place a.right, ap (sites_of g) c.deref-in-Binary-2.ensures)

pub typed-overflow_add-before : goal.typed-overflow_add-before
typed-overflow_add-before t c =
    let a = c.in-Binary in
    let g = c.args.scope.now in
    omega (arith, c.requires.sites, ap (sites_of g) a.is, sites-Binary g a.left a.operator a.place a.right, ap (sites_of g) c.deref-in-Binary-2.ensures, c.sites_of.ensures)

pub typed-typed_operand-requires-in-Binary-2 : goal.typed-typed_operand-requires-in-Binary-2
typed-typed_operand-requires-in-Binary-2 t c =
    let a = c.in-Binary in
    let g = c.args.scope.now in
    (omega (arith, ap nodes_of a.is, nodes-Binary a.left a.operator a.place a.right, ap nodes_of c.deref-in-Binary-3.ensures), (c.requires.numbered, omega (arith, c.requires.sites, ap (sites_of g) a.is, sites-Binary g a.left a.operator a.place a.right, ap (sites_of g) c.deref-in-Binary-3.ensures, c.sites_of.ensures, ap (sites_of g) c.deref-in-Binary-2.ensures)))

pub typed-typed_operand-requires-in-Postfix : goal.typed-typed_operand-requires-in-Postfix
typed-typed_operand-requires-in-Postfix t c =
    let a = c.in-Postfix in
    let g = c.args.scope.now in
    (omega (arith, ap nodes_of a.is, nodes-Postfix a.operand a.operator a.place, ap nodes_of c.deref-in-Postfix.ensures), (c.requires.numbered, omega (arith, c.requires.sites, ap (sites_of g) a.is, sites-Postfix g a.operand a.operator a.place, ap (sites_of g) c.deref-in-Postfix.ensures)))

pub typed-typed_operand-requires-in-Index : goal.typed-typed_operand-requires-in-Index
typed-typed_operand-requires-in-Index t c =
    let a = c.in-Index in
    let g = c.args.scope.now in
    (omega (arith, ap nodes_of a.is, nodes-Index a.object a.place a.index, ap nodes_of c.deref-in-Index.ensures), (c.requires.numbered, omega (arith, c.requires.sites, ap (sites_of g) a.is, object-Index g a.object a.place a.index, ap (sites_of g) c.deref-in-Index.ensures)))

pub typed-typed_operand-requires-in-Index-2 : goal.typed-typed_operand-requires-in-Index-2
typed-typed_operand-requires-in-Index-2 t c =
    let a = c.in-Index in
    let g = c.args.scope.now in
    (omega (arith, ap nodes_of a.is, nodes-Index a.object a.place a.index, ap nodes_of c.deref-in-Index-2.ensures), (c.requires.numbered, omega (arith, c.requires.sites, ap (sites_of g) a.is, sites-Index g c.args.before a.object a.place a.index, ap (sites_of g) c.deref-in-Index-2.ensures, c.inside-in-Index.ensures, ap (λ (y : ExprCode). inside g c.args.before (expr_of y)) a.is)))

pub typed-typed_operand-requires-in-MemberCall : goal.typed-typed_operand-requires-in-MemberCall
typed-typed_operand-requires-in-MemberCall t c =
    let a = c.in-MemberCall in
    let g = c.args.scope.now in
    (omega (arith, ap nodes_of a.is, nodes-MemberCall a.object a.function a.arguments, ap nodes_of c.deref-in-MemberCall.ensures), (c.requires.numbered, omega (arith, c.requires.sites, ap (sites_of g) a.is, object-MemberCall g a.object a.function a.arguments, ap (sites_of g) c.deref-in-MemberCall.ensures)))

pub typed-operands-requires-in-MemberCall : goal.typed-operands-requires-in-MemberCall
typed-operands-requires-in-MemberCall t c =
    let a = c.in-MemberCall in
    let g = c.args.scope.now in
    (omega (arith, ap nodes_of a.is, nodes-MemberCall a.object a.function a.arguments, ap nodes_of_all c.as_slice-given-in-MemberCall.ensures.value), (c.requires.numbered, omega (arith, c.requires.sites, ap (sites_of g) a.is, sites-MemberCall g c.args.before a.object a.function a.arguments, ap (λ (ys : List ExprCode). count_all g (exprs_of ys)) c.as_slice-given-in-MemberCall.ensures.value, c.inside-in-MemberCall.ensures, ap (λ (y : ExprCode). inside g c.args.before (expr_of y)) a.is)))

pub typed-typed-requires-in-Member : goal.typed-typed-requires-in-Member
typed-typed-requires-in-Member t c =
    let a = c.in-Member in
    let g = c.args.scope.now in
    (omega (arith, ap nodes_of a.is, nodes-Member a.object a.selector a.place a.member, ap nodes_of c.deref-in-Member.ensures), (c.requires.numbered, omega (arith, c.requires.sites, ap (sites_of g) a.is, sites-Member g a.object a.selector a.place a.member, ap (sites_of g) c.deref-in-Member.ensures)))

pub typed_operand-typed-requires : goal.typed_operand-typed-requires
typed_operand-typed-requires t c =
    (omega arith, (c.requires.numbered, c.requires.sites))

pub typed-returns-in-Parentheses : goal.typed-returns-in-Parentheses
typed-returns-in-Parentheses t c =
    let a = c.in-Parentheses in
    let g = c.args.scope.now in
    let n = c.args.before in
    seen_as _ _ _ c.typed.ensures (ap (λ (y : ExprCode). typed g n (expr_of y)) c.deref-in-Parentheses.ensures ∙ sym (typed-Parentheses g n a.place a.inner) ∙ ap (λ (y : ExprCode). typed g n (expr_of y)) (sym a.is))

pub typed-returns-in_ok-values-in-Call : goal.typed-returns-in_ok-values-in-Call
typed-returns-in_ok-values-in-Call t c =
    let a = c.in-Call in
    let g = c.args.scope.now in
    let n = c.args.before in
    c.own_call.ensures
    ∙ call_answer g n a.function a.arguments c.args.x.now c.as_slice-name.result.now c.function_number.result c.parameters.result.now c.deref.result.now _
    a.is c.as_slice-name.ensures.value c.function_number.ensures c.parameters.ensures c.deref.ensures.value c.in_ok-values-in-Call.ensures

pub typed-returns-in-Number : goal.typed-returns-in-Number
typed-returns-in-Number t c =
    let a = c.in-Number in
    let g = c.args.scope.now in
    let n = c.args.before in
    c.literal.ensures ∙ sym (typed-Number g n a.place a.value) ∙ ap (λ (y : ExprCode). typed g n (expr_of y)) (sym a.is)

pub typed-returns-in-Truth : goal.typed-returns-in-Truth
typed-returns-in-Truth t c =
    let a = c.in-Truth in
    let g = c.args.scope.now in
    let n = c.args.before in
    c.truth.ensures ∙ sym (typed-Truth g n a.place a.value) ∙ ap (λ (y : ExprCode). typed g n (expr_of y)) (sym a.is)

pub typed-returns-in-Name : goal.typed-returns-in-Name
typed-returns-in-Name t c =
    let a = c.in-Name in
    let g = c.args.scope.now in
    let n = c.args.before in
    c.variable_use.ensures ∙ sym (typed-Name g n a.name) ∙ ap (λ (y : ExprCode). typed g n (expr_of y)) (sym a.is)

pub typed-returns-in_ok-value-in-Prefix : goal.typed-returns-in_ok-value-in-Prefix
typed-returns-in_ok-value-in-Prefix t c =
    let a = c.in-Prefix in
    let g = c.args.scope.now in
    let n = c.args.before in
    let o = c.in_ok-value-in-Prefix in
    seen_as _ _ _ c.prefixed.ensures
    (prefix_answer g n a.operator a.place a.operand c.args.x.now o.value.value_type c.told.result (view.expr_of o.value.value) a.is
    (o.ensures.own_type ∙ ap (λ (y : ExprCode). type_of g (expr_of y)) c.deref-in-Prefix.ensures) (c.told.ensures ∙ ap (λ (y : ExprCode). told g (expr_of y)) c.deref-in-Prefix-2.ensures)
    (o.ensures.value ∙ ap (λ (y : ExprCode). typed g n (expr_of y)) c.deref-in-Prefix.ensures))

pub typed-returns-in_ok-value-in-Postfix : goal.typed-returns-in_ok-value-in-Postfix
typed-returns-in_ok-value-in-Postfix t c =
    let a = c.in-Postfix in
    let g = c.args.scope.now in
    let n = c.args.before in
    let o = c.in_ok-value-in-Postfix in
    seen_as _ _ _ c.postfixed.ensures
    (postfix_answer g n a.operand a.operator a.place c.args.x.now o.value.value_type c.told-in-Postfix.result (view.expr_of o.value.value) a.is
    (o.ensures.own_type ∙ ap (λ (y : ExprCode). type_of g (expr_of y)) c.deref-in-Postfix.ensures) (c.told-in-Postfix.ensures ∙ ap (λ (y : ExprCode). told g (expr_of y)) c.deref-in-Postfix-2.ensures)
    (o.ensures.value ∙ ap (λ (y : ExprCode). typed g n (expr_of y)) c.deref-in-Postfix.ensures))

pub typed-returns-in_ok-second-in-Binary : goal.typed-returns-in_ok-second-in-Binary
typed-returns-in_ok-second-in-Binary t c =
    let a = c.in-Binary in
    let g = c.args.scope.now in
    let n = c.args.before in
    let o = c.in_ok-first-in-Binary in
    let r = c.in_ok-second-in-Binary in
    seen_as _ _ _ c.joined.ensures
    (binary_answer g n a.left a.operator a.place a.right c.args.x.now o.first.value_type r.second.value_type c.told-in-Binary.result c.told-in-Binary-2.result c.sites_of.result
    (view.expr_of o.first.value) (view.expr_of r.second.value) a.is
    (o.ensures.own_type ∙ ap (λ (y : ExprCode). type_of g (expr_of y)) c.deref-in-Binary.ensures) (r.ensures.own_type ∙ ap (λ (y : ExprCode). type_of g (expr_of y)) c.deref-in-Binary-3.ensures)
    (c.told-in-Binary.ensures ∙ ap (λ (y : ExprCode). told g (expr_of y)) c.deref-in-Binary-4.ensures) (c.told-in-Binary-2.ensures ∙ ap (λ (y : ExprCode). told g (expr_of y)) c.deref-in-Binary-5.ensures)
    (c.sites_of.ensures ∙ ap (sites_of g) c.deref-in-Binary-2.ensures) (o.ensures.value ∙ ap (λ (y : ExprCode). typed g n (expr_of y)) c.deref-in-Binary.ensures)
    (r.ensures.value ∙ ap (λ (y : ExprCode). typed g (n + c.sites_of.result) (expr_of y)) c.deref-in-Binary-3.ensures))

pub typed-returns-in_ok-value-in-Index : goal.typed-returns-in_ok-value-in-Index
typed-returns-in_ok-value-in-Index t c =
    let a = c.in-Index in
    let g = c.args.scope.now in
    let n = c.args.before in
    let o = c.in_ok-container-in-Index in
    let r = c.in_ok-value-in-Index in
    seen_as _ _ _ c.subscripted.ensures
    (index_answer g n a.object a.place a.index c.args.x.now o.container.value_type r.value.value_type c.told-in-Index.result c.told-in-Index-2.result c.site_number-site-in-Index.result
    c.inside-in-Index.result (view.expr_of o.container.value) (view.expr_of r.value.value) a.is
    (o.ensures.own_type ∙ ap (λ (y : ExprCode). type_of g (expr_of y)) c.deref-in-Index.ensures) (r.ensures.own_type ∙ ap (λ (y : ExprCode). type_of g (expr_of y)) c.deref-in-Index-2.ensures)
    (c.told-in-Index.ensures ∙ ap (λ (y : ExprCode). told g (expr_of y)) c.deref-in-Index-3.ensures) (c.told-in-Index-2.ensures ∙ ap (λ (y : ExprCode). told g (expr_of y)) c.deref-in-Index-4.ensures)
    c.site_number-site-in-Index.ensures c.inside-in-Index.ensures (o.ensures.value ∙ ap (λ (y : ExprCode). typed g n (expr_of y)) c.deref-in-Index.ensures)
    (r.ensures.value ∙ ap (λ (y : ExprCode). typed g c.inside-in-Index.result (expr_of y)) c.deref-in-Index-2.ensures))

pub typed-returns-in_ok-value-in-Member : goal.typed-returns-in_ok-value-in-Member
typed-returns-in_ok-value-in-Member t c =
    let a = c.in-Member in
    let g = c.args.scope.now in
    let n = c.args.before in
    let o = c.in_ok-value-in-Member in
    seen_as _ _ _ c.selected.ensures
    (member_part_answer g n a.object a.selector a.place a.member c.args.x.now c.is_first.result c.told-in-Member.result (view.expr_of o.value) a.is
    (c.is_first.ensures ∙ ap is_first c.as_slice-in-Member.ensures.value) (c.told-in-Member.ensures ∙ ap (λ (y : ExprCode). told g (expr_of y)) c.deref-in-Member-2.ensures)
    (o.ensures ∙ ap (λ (y : ExprCode). typed g n (expr_of y)) c.deref-in-Member.ensures))

pub typed-returns-in_ok-names-in-LibraryCall : goal.typed-returns-in_ok-names-in-LibraryCall
typed-returns-in_ok-names-in-LibraryCall t c =
    let a = c.in-LibraryCall in
    let g = c.args.scope.now in
    let n = c.args.before in
    seen_as _ _ _ c.called_algorithm.ensures
    (library_answer g n a.function a.arguments c.args.x.now c.as_slice-name-in-LibraryCall.result.now c.as_slice-given.result.now c.appends-appending.result
    (option_map found_of c.row_of_algorithm_call-row.result) c.site_number-site.result c.as_slice.result.now c.inside.result _
    a.is c.as_slice-name-in-LibraryCall.ensures.value c.as_slice-given.ensures.value c.appends-appending.ensures c.row_of_algorithm_call-row.ensures
    c.site_number-site.ensures (c.as_slice.ensures ∙ c.in_ok-names-in-LibraryCall.ensures) c.inside.ensures
    (c.in_ok-values-in-LibraryCall.ensures ∙ ap (λ (ls : List Letter). operands g c.inside.result (ways ls) (exprs_of c.as_slice-given.result.now)) c.letters_of.ensures))

pub typed-returns-in_ok-names-in-MemberCall : goal.typed-returns-in_ok-names-in-MemberCall
typed-returns-in_ok-names-in-MemberCall t c =
    let a = c.in-MemberCall in
    let g = c.args.scope.now in
    let n = c.args.before in
    let o = c.in_ok-container-in-MemberCall in
    seen_as _ _ _ c.called_row.ensures
    (member_answer g n a.object a.function a.arguments c.args.x.now o.container.value_type (view.expr_of o.container.value)
    c.as_slice-name-in-MemberCall.result.now c.as_slice-given-in-MemberCall.result.now
    (option_map found_of c.row_of_member_call-row.result) c.site_number-site-in-MemberCall.result c.number_in-number.result c.told-in-MemberCall.result
    c.as_slice-in-MemberCall.result.now c.inside-in-MemberCall.result _
    a.is (o.ensures.own_type ∙ ap (λ (y : ExprCode). type_of g (expr_of y)) c.deref-in-MemberCall.ensures) (o.ensures.value ∙ ap (λ (y : ExprCode). typed g n (expr_of y)) c.deref-in-MemberCall.ensures)
    c.as_slice-name-in-MemberCall.ensures.value c.as_slice-given-in-MemberCall.ensures.value c.row_of_member_call-row.ensures
    c.site_number-site-in-MemberCall.ensures c.number_in-number.ensures (c.told-in-MemberCall.ensures ∙ ap (λ (y : ExprCode). told g (expr_of y)) c.deref-in-MemberCall-2.ensures)
    (c.as_slice-in-MemberCall.ensures ∙ c.in_ok-names-in-MemberCall.ensures) c.inside-in-MemberCall.ensures
    (c.in_ok-values-in-MemberCall.ensures
    ∙ ap (λ (ls : List Letter). operands g c.inside-in-MemberCall.result (ways ls) (exprs_of c.as_slice-given-in-MemberCall.result.now))
    c.letters_of-in-MemberCall.ensures))
